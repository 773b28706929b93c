-- Laws of what is gathered of events, one token after the other.
use Rattle.std.specs.Prelude.{ℕ, zero, suc, ◌+◌, ◌<◌, ◌≤◌, ◌≡◌, refl, Bool, true, false, ◌||◌, List, [], ◌∷◌, ◌++◌, eqb, drop}
use Rattle.std.proofs.Math.Path.{sym, ap}
use Rattle.std.proofs.Common.{ap₂, ◌∙◌, subst, append-nil, append_assoc, arith}
use Rattle.std.proofs.Math.Bool.{or-false, or-true, or_assoc}
use Rattle.std.proofs.Math.Option.{Option, none}
use borrow.Author.Tests.{eq-eqb, ne_eqb}
use Rattle.rules.specs.Text.Tokens.{Name, STOP, kind_no}
use Rattle.rules.specs.Declarations.{Word, body_number, body_of}
use Rattle.rules.specs.Steps.Runs.{body_act, act_or}
use Rattle.rules.specs.Whole.Sets.{owner, sets_of, body_sets, stops_in, body_stops, member}
use Rattle.records.specs.Holds.{kind_byte, token_at, inside_cell}
use Rattle.records.specs.Words.{word_at}
use Rattle.reading.specs.Kinds.{next_no, stores, ends, closes, mode as turned}
use Rattle.reading.specs.Reading.{Reading, table_of, Kinded}
use Rattle.reading.specs.Laws.Reading.{kinded, next_token, no_more}
use Rattle.reading.specs.Names.{Owned}
use Rattle.reading.specs.Laws.Meanings.{means_number, means_nothing}
use Rattle.reading.specs.Events.{Event, reads, writes, activates, halts, acting_event, name_event, event, heard}
use Rattle.reading.specs.Touches.{any_event, read_hit, write_hit, stop_hit}
use Rattle.reading.specs.Calls.{calls_of}
use Rattle.reading.specs.Laws.Calls.{calls_append, heard_ends, heard_closes, heard_on}
use Rattle.reading.specs.Bits.{holds}
use Rattle.gathering.specs.Memory.{Recalls, Carrying, mark_of, carrier_of, reads_at, writes_at}
use Rattle.table.specs.Scans.{no as number, deeper}
use Rattle.gathering.specs.Shown.{Shown, sets_for, stops_for, event_at, Hears, AllRecalled, Touches, Gathers}

any_append : (p : Event → Bool) (xs ys : List Event) → any_event p (xs ++ ys) ≡ (any_event p xs || any_event p ys)
unfolding any_event
any_append p [] ys = refl
any_append p (x ∷ xs) ys = ap (λ (b : Bool). p x || b) (any_append p xs ys) ∙ sym (or_assoc (p x) (any_event p xs) (any_event p ys))

any_last : (p : Event → Bool) (xs : List Event) (e : Event) → any_event p (xs ++ (e ∷ [])) ≡ (any_event p xs || p e)
unfolding any_event
any_last p xs e = any_append p xs (e ∷ []) ∙ ap (λ (b : Bool). any_event p xs || b) (or-false (p e))

module _ {records decls : List ℕ} {m n : ℕ} (v : Reading records decls m n) where
  -- one event more
  shown_more : {r w r₁ w₁ : List ℕ} {s s₁ : Bool} (es : List Event) (e : Event) → Shown v r w s es
      → ((c : ℕ) → holds r₁ c ≡ (holds r c || read_hit (table_of v) (sets_for v) c e))
      → ((c : ℕ) → holds w₁ c ≡ (holds w c || write_hit (table_of v) (sets_for v) c e)) → s₁ ≡ (s || stop_hit (stops_for v) e) → Shown v r₁ w₁ s₁ (es ++ (e ∷ []))
  shown_more es e x a b c = record {
    reading = λ k. a k ∙ (ap (λ (y : Bool). y || read_hit (table_of v) (sets_for v) k e) (x.reading k) ∙ sym (any_last (read_hit (table_of v) (sets_for v) k) es e));
    writing = λ k. b k ∙ (ap (λ (y : Bool). y || write_hit (table_of v) (sets_for v) k e) (x.writing k) ∙ sym (any_last (write_hit (table_of v) (sets_for v) k) es e));
    stopping = c ∙ (ap (λ (y : Bool). y || stop_hit (stops_for v) e) x.stopping ∙ sym (any_last (stop_hit (stops_for v)) es e));
  }

-- a set with the carriers of a name
pub with_owned : (s o r : List ℕ) {c : ℕ} → c < 256 → ((k : ℕ) → holds o k ≡ eqb k c) → ((k : ℕ) → holds r k ≡ (holds s k || holds o k))
    → (xs : List ℕ) → Owned xs c → (k : ℕ) → holds r k ≡ (holds s k || member k xs)
unfolding member
with_owned s o r {c} h a b xs x k = b k ∙ ap (λ (y : Bool). holds s k || y) (a k ∙ (sym (or-false (eqb k c)) ∙ sym (ap (member k) (x.one h))))

pub with_none : (s : List ℕ) {c : ℕ} → 256 ≤ c → (xs : List ℕ) → Owned xs c → (k : ℕ) → holds s k ≡ (holds s k || member k xs)
unfolding member
with_none s h xs x k = sym (or-false (holds s k)) ∙ ap (λ (y : Bool). holds s k || y) (sym (ap (member k) (x.nothing h)))

kind_is : {records decls : List ℕ} {m n i k : ℕ} → i < n → k ≡ kind_byte records i → (v : Reading records decls m n) → number (token_at v.tokens i) ≡ k
kind_is {i = i} h q v = sym (q ∙ (kinded v).kind i h)

named : {records decls : List ℕ} {m n i k : ℕ} (mode : ℕ) → i < n → k ≡ kind_byte records i → k ≡ kind_no Name → (v : Reading records decls m n)
    → event_at v mode i ≡ name_event mode (word_at v.tokens i) (next_no (drop (i + 1) v.tokens))
unfolding event
named {i = i} mode h q e v = let z : number (token_at v.tokens i) ≡ 0 = kind_is h q v ∙ e in rw (z, event)

read_event : (y : ℕ) → (y ≡ 0 → ⊥) → (u : Word) (t : ℕ) → name_event y u t ≡ reads u ∷ []
unfolding name_event
read_event zero n u t = absurd (n refl)
read_event (suc y) n u t = refl

acts : {records decls : List ℕ} {m n mode i k next : ℕ} → i < n → k ≡ kind_byte records i → k ≡ kind_no Name → mode ≡ 0
    → ((v : Kinded records n) → next ≡ next_no (drop (i + 1) v.tokens))
    → (v : Reading records decls m n) → event_at v mode i ≡ acting_event (word_at v.tokens i) next
unfolding name_event
acts {mode = mode} {i = i} h q name acting behind v =
    named mode h q name v ∙ (ap (λ (x : ℕ). name_event x (word_at v.tokens i) (next_no (drop (i + 1) v.tokens))) acting ∙ ap
    (acting_event (word_at v.tokens i)) (sym (behind (kinded v))))

same : (a b : List ℕ) → b ≡ a → (j : ℕ) → holds b j ≡ (holds a j || false)
same a b e j = ap (λ (x : List ℕ). holds x j) e ∙ sym (or-false (holds a j))

module _ {records decls memo : List ℕ} {m n mode i : ℕ} where
  -- a token that is no event
  quiet : {r w : List ℕ} {s : Bool} → ((v : Reading records decls m n) → event_at v mode i ≡ []) → Hears records decls memo m n mode i r w s r w s
  quiet {r} {w} {s} e = record { adds = λ v es a x. subst (Shown v r w s) (sym (ap (λ (l : List Event). es ++ l) (e v) ∙ append-nil es)) x }

  -- a token that is one
  loud : {r w r₁ w₁ : List ℕ} {s s₁ : Bool} (e : (v : Reading records decls m n) → Event) → ((v : Reading records decls m n) → event_at v mode i ≡ e v ∷ [])
      → ((v : Reading records decls m n) → AllRecalled v memo (calls_of (e v ∷ [])) → (c : ℕ) → holds r₁ c
      ≡ (holds r c || read_hit (table_of v) (sets_for v) c (e v)))
      → ((v : Reading records decls m n) → AllRecalled v memo (calls_of (e v ∷ [])) → (c : ℕ) → holds w₁ c
      ≡ (holds w c || write_hit (table_of v) (sets_for v) c (e v)))
      → ((v : Reading records decls m n) → AllRecalled v memo (calls_of (e v ∷ [])) → s₁ ≡ (s || stop_hit (stops_for v) (e v)))
      → Hears records decls memo m n mode i r w s r₁ w₁ s₁
  loud {r₁ = r₁} {w₁ = w₁} {s₁ = s₁} e is a b c = record {
    adds = λ v es y x.
        let z = subst (λ (l : List Event). AllRecalled v memo (calls_of l)) (is v) y in
        subst (λ (l : List Event). Shown v r₁ w₁ s₁ (es ++ l)) (sym (is v)) (shown_more v es (e v) x (a v z) (b v z) (c v z));
  }

  module _ {k : ℕ} (h : i < n) (q : k ≡ kind_byte records i) where
    pub halting : {r w r₁ w₁ : List ℕ} {s s₁ : Bool} → k ≡ kind_no STOP → r₁ ≡ r → w₁ ≡ w → s₁ ≡ true → Hears records decls memo m n mode i r w s r₁ w₁ s₁
    unfolding event
    halting {r} {w} {s = s} e a b c =
        loud (λ v. halts) (λ v. let t = number (token_at v.tokens i) in let z : t ≡ 29 = kind_is h q v ∙ e in rw (ne_eqb t 0 (λ y. omega arith), eq-eqb t 29 z, event))
        (λ v x j. same r _ a j) (λ v x j. same w _ b j) (λ v x. c ∙ sym (or-true s))

    pub marking : {r w : List ℕ} {s : Bool} → (k ≡ kind_no STOP → ⊥) → (k ≡ kind_no Name → ⊥) → Hears records decls memo m n mode i r w s r w s
    unfolding event
    marking a b =
        quiet (λ v. rw (
          ne_eqb (number (token_at v.tokens i)) 0 (λ z. b (sym (kind_is h q v) ∙ z)),
          ne_eqb (number (token_at v.tokens i)) 29
              (λ z. a (sym (kind_is h q v) ∙ z)),
          event,
        ))

    module _ (name : k ≡ kind_no Name) where
      pub reading_carrier : {r w r₁ w₁ : List ℕ} {s s₁ : Bool} {c : ℕ} → (mode ≡ 0 → ⊥)
          → ((v : Reading records decls m n) → Owned (owner (table_of v) (word_at v.tokens i)) c)
          → ((xs : List ℕ) → Owned xs c → (j : ℕ) → holds r₁ j ≡ (holds r j || member j xs)) → w₁ ≡ w → s₁ ≡ s
          → Hears records decls memo m n mode i r w s r₁ w₁ s₁
      reading_carrier {w = w} {s = s} e o a b c =
          loud (λ v. reads (word_at v.tokens i)) (λ v. named mode h q name v ∙ read_event mode e (word_at v.tokens i) _)
          (λ v x j. a (owner (table_of v) (word_at v.tokens i)) (o v) j) (λ v x j. same w _ b j) (λ v x. c ∙ sym (or-false s))

      module _ {next : ℕ} (acting : mode ≡ 0) (behind : (v : Kinded records n) → next ≡ next_no (drop (i + 1) v.tokens)) where
        pub calling : {r w r₁ w₁ r₂ w₂ : List ℕ} {s s₁ s₂ : Bool} → next ≡ 3
            → ((v : Reading records decls m n) → Recalls v memo (word_at v.tokens i) → Touches v (word_at v.tokens i) r₂ w₂ s₂)
            → ((j : ℕ) → holds r₁ j ≡ (holds r j || holds r₂ j)) → ((j : ℕ) → holds w₁ j ≡ (holds w j || holds w₂ j)) → s₁ ≡ (s || s₂)
            → Hears records decls memo m n mode i r w s r₁ w₁ s₁
        unfolding acting_event calls_of
        calling {r} {w} {s = s} e t a b c =
            loud (λ v. activates (word_at v.tokens i)) (λ v. acts h q name acting behind v ∙ rw (e, acting_event))
            (λ v x j. a j ∙ ap (λ (y : Bool). holds r j || y) ((t v x.0).its_reads j))
            (λ v x j. b j ∙ ap (λ (y : Bool). holds w j || y) ((t v x.0).its_writes j))
            (λ v x. c ∙ ap (λ (y : Bool). s || y) (t v x.0).its_stops)

        module _ (other : next ≡ 3 → ⊥) {d : Bool} (stored : d ≡ stores next) where
          pub writing_carrier : {r w r₁ w₁ : List ℕ} {s s₁ : Bool} {c : ℕ} → d ≡ true
              → ((v : Reading records decls m n) → Owned (owner (table_of v) (word_at v.tokens i)) c)
              → ((xs : List ℕ) → Owned xs c → (j : ℕ) → holds w₁ j ≡ (holds w j || member j xs)) → r₁ ≡ r → s₁ ≡ s
              → Hears records decls memo m n mode i r w s r₁ w₁ s₁
          unfolding acting_event
          writing_carrier {r} {s = s} t o a b c =
              loud (λ v. writes (word_at v.tokens i)) (λ v. acts h q name acting behind v ∙ rw (ne_eqb next 3 other, acting_event, sym stored ∙ t))
              (λ v x j. same r _ b j) (λ v x j. a (owner (table_of v) (word_at v.tokens i)) (o v) j) (λ v x. c ∙ sym (or-false s))

          pub naming : {r w : List ℕ} {s : Bool} → d ≡ false → Hears records decls memo m n mode i r w s r w s
          unfolding acting_event
          naming t = quiet (λ v. acts h q name acting behind v ∙ rw (ne_eqb next 3 other, acting_event, sym stored ∙ t))

-- the body of a name that is not declared, or of which an entry is remembered
module _ {records decls : List ℕ} {m n i k : ℕ} (h : i < n) (e : kind_byte records i ≡ kind_no Name) (q : k ≡ inside_cell records i) where
  pub unknown_body : {r w : List ℕ} {s : Bool} (memo : List ℕ) → m ≤ k → ((j : ℕ) → holds r j ≡ false) → ((j : ℕ) → holds w j ≡ false) → s ≡ false
      → (v : Reading records decls m n) → Recalls v memo (word_at v.tokens i) → Touches v (word_at v.tokens i) r w s
  unfolding body_sets body_stops body_act body_of body_number sets_of stops_in member
  unknown_body memo l a b c v x =
      let z = means_nothing v i k h e q l in
      let o : body_act (table_of v) (word_at v.tokens i) ≡ act_or none = ap (λ (y : Option ℕ). act_or (body_number (table_of v) y)) z in
      record {
        its_reads = λ j. a j ∙ sym (ap (λ y. member j (sets_of (table_of v) (body_sets (table_of v) 15) y).reads) o);
        its_writes = λ j. b j ∙ sym (ap (λ y. member j (sets_of (table_of v) (body_sets (table_of v) 15) y).writes) o);
        its_stops = c ∙ sym (ap (λ y. stops_in (body_stops (table_of v) 15) y) o);
      }

  pub known_carrier : {memo : List ℕ} {r : ℕ} → k < m → r ≡ carrier_of memo k → Carrying records decls memo m n
      → (v : Reading records decls m n) → Owned (owner (table_of v) (word_at v.tokens i)) r
  known_carrier l a c v = subst (Owned (owner (table_of v) (word_at v.tokens i))) (sym a) ((c.carries v k l).owned (word_at v.tokens i) (means_number v i k h e q l))

  pub known_body : {r w memo : List ℕ} {s : Bool} → k < m → r ≡ reads_at memo k → w ≡ writes_at memo k → s ≡ eqb (mark_of memo k) 2
      → (v : Reading records decls m n) → Recalls v memo (word_at v.tokens i) → Touches v (word_at v.tokens i) r w s
  known_body l a b c v x =
      let y = x.entry k (means_number v i k h e q l) in
      record {
        its_reads = λ j. ap (λ (z : List ℕ). holds z j) a ∙ y.reads j;
        its_writes = λ j. ap (λ (z : List ℕ). holds z j) b ∙ y.writes j;
        its_stops = c ∙ y.stopping;
      }

-- an action whose tokens are heard one by one, up to the token i
pub record Listening (records decls memo : List ℕ) (m n from : ℕ) (r w : List ℕ) (s : Bool) (d mode i : ℕ) : Type 0 where
  pub shallow : d ≤ i
  pub counted : mode ≤ i + 1
  pub reading : Reading records decls m n
  pub so_far : (v : Reading records decls m n) → AllRecalled v memo (calls_of (heard 0 0 (drop from v.tokens)))
      → (es : List Event) × Shown v r w s es × (heard 0 0 (drop from v.tokens) ≡ es ++ heard d mode (drop i v.tokens))

pub listen : {records decls : List ℕ} {m n : ℕ} (memo : List ℕ) (from : ℕ) {r w : List ℕ} {s : Bool} → Reading records decls m n → ((j : ℕ) → holds r j ≡ false)
    → ((j : ℕ) → holds w j ≡ false) → s ≡ false → Listening records decls memo m n from r w s 0 0 from
unfolding any_event
listen memo from x a b c = record {
  shallow = omega arith;
  counted = omega arith;
  reading = x;
  so_far = λ v h. ([], record { reading = a; writing = b; stopping = c }, refl);
}

recalled_right : {records decls : List ℕ} {m n : ℕ} (v : Reading records decls m n) (memo : List ℕ) (xs ys : List Word) → AllRecalled v memo (xs ++ ys)
    → AllRecalled v memo ys
recalled_right v memo [] ys h = h
recalled_right v memo (x ∷ xs) ys h = recalled_right v memo xs ys h.1

recalled_left : {records decls : List ℕ} {m n : ℕ} (v : Reading records decls m n) (memo : List ℕ) (xs ys : List Word) → AllRecalled v memo (xs ++ ys)
    → AllRecalled v memo xs
recalled_left v memo [] ys h = tt
recalled_left v memo (x ∷ xs) ys h = (h.0, recalled_left v memo xs ys h.1)

module _ {records decls memo : List ℕ} {m n from : ℕ} {r w : List ℕ} {s : Bool} {d mode i : ℕ} (inv : Listening records decls memo m n from r w s d mode i) where
  -- nothing is left to hear
  silence : ((v : Reading records decls m n) → heard d mode (drop i v.tokens) ≡ []) → Gathers records decls memo m n from r w s
  silence e v h =
      let x = inv.so_far v h in
      subst (Shown v r w s) (sym (x.2 ∙ (ap (λ (l : List Event). x.0 ++ l) (e v) ∙ append-nil x.0))) x.1

  pub heard_all : n ≤ i → Gathers records decls memo m n from r w s
  unfolding heard
  heard_all h = silence (λ v. ap (heard d mode) (no_more (kinded v) i h))

  module _ {k : ℕ} (h : i < n) (q : k ≡ kind_byte records i) {b : Bool} (e : b ≡ ends d k) where
    here : (v : Reading records decls m n) → drop i v.tokens ≡ token_at v.tokens i ∷ drop (i + 1) v.tokens
    here v = next_token (kinded v) i h

    pub heard_end : b ≡ true → Gathers records decls memo m n from r w s
    heard_end t = silence (λ v. ap (heard d mode) (here v) ∙ heard_ends d mode _ _ (ap (ends d) (kind_is h q v) ∙ (sym e ∙ t)))

    module _ (f : b ≡ false) {r₁ w₁ : List ℕ} {s₁ : Bool} (x : Hears records decls memo m n mode i r w s r₁ w₁ s₁) {c : Bool} (o : c ≡ closes d k) where
      not_yet : (v : Reading records decls m n) → ends d (number (token_at v.tokens i)) ≡ false
      not_yet v = ap (ends d) (kind_is h q v) ∙ (sym e ∙ f)

      -- with this token, if `rest` is heard behind it
      more : (v : Reading records decls m n) (rest : List Event) → heard d mode (drop i v.tokens) ≡ event_at v mode i ++ rest
          → AllRecalled v memo (calls_of (heard 0 0 (drop from v.tokens)))
          → (es : List Event) × Shown v r₁ w₁ s₁ es × (heard 0 0 (drop from v.tokens) ≡ es ++ rest)
      more v rest z a =
          let y = inv.so_far v a in
          let whole : heard 0 0 (drop from v.tokens) ≡ y.0 ++ (event_at v mode i ++ rest) = y.2 ∙ ap (λ (l : List Event). y.0 ++ l) z in
          let calls : calls_of (heard 0 0 (drop from v.tokens)) ≡ calls_of y.0 ++ (calls_of (event_at v mode i) ++ calls_of rest) =
          ap calls_of whole ∙ (calls_append y.0 (event_at v mode i ++ rest) ∙ ap (λ (l : List Word). calls_of y.0 ++ l)
          (calls_append (event_at v mode i) rest)) in
          let known = recalled_left v memo (calls_of (event_at v mode i)) (calls_of rest) (recalled_right v memo (calls_of y.0) _ (subst (AllRecalled v memo) calls a)) in
          (y.0 ++ event_at v mode i, x.adds v y.0 known y.1, whole ∙ sym (append_assoc y.0 (event_at v mode i) rest))

      pub heard_last : c ≡ true → Gathers records decls memo m n from r₁ w₁ s₁
      heard_last t v a =
          let y = more v [] (ap (heard d mode) (here v) ∙ (heard_closes d mode _ _ (not_yet v) (ap (closes d) (kind_is h q v) ∙ (sym o ∙ t)) ∙ sym (append-nil (event_at v mode i)))) a in
          subst (Shown v r₁ w₁ s₁) (sym (y.2 ∙ append-nil y.0)) y.1

      pub hear_on : {deep new_mode : ℕ} → c ≡ false → deep ≡ deeper d k → deep ≤ d + 1 → new_mode ≡ turned mode k → new_mode ≤ mode + 1
          → Listening records decls memo m n from r₁ w₁ s₁ deep new_mode (i + 1)
      hear_on {deep} {new_mode} t a l b g = record {
        shallow = omega (arith, inv.shallow);
        counted = omega (arith, inv.counted);
        reading = inv.reading;
        so_far = λ v z. more v (heard deep new_mode (drop (i + 1) v.tokens))
            (ap (heard d mode) (here v)
            ∙ (heard_on d mode _ _ (not_yet v) (ap (closes d) (kind_is h q v) ∙ (sym o ∙ t))
            ∙ ap₂ (λ (x y : ℕ). event_at v mode i ++ heard x y (drop (i + 1) v.tokens)) (ap (deeper d) (kind_is h q v) ∙ sym a)
            (ap (turned mode) (kind_is h q v) ∙ sym b))) z;
      }
