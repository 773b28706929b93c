-- Laws of the activations of an action: the search from one to the next.
use Prim.Native.Nat.{ℕ, zero, suc, ◌+◌, ◌<◌, ◌≤◌}
use Rattle.std.specs.Prelude.{◌≡◌, Bool, ◌||◌, eqb}
use Rattle.std.proofs.Math.Path.{refl, sym, ap, ap₂}
use Rattle.std.proofs.Common.{◌∙◌, subst}
use Rattle.std.proofs.Math.Bool.{true, false}
use mathlib.Core.List.{List, [], ◌∷◌, ◌++◌, append-nil}
use native.Mathlib.Omega.{arith}
use Rattle.std.proofs.Math.Decide.{dec_lt}
use borrow.Author.Tests.{eq-eqb, ne_eqb}
use Rattle.std.proofs.Math.ListN.{drop}
use Rattle.rules.specs.Text.Tokens.{Token, LPar, kind_no, Name, STOP}
use Rattle.rules.specs.Grammar.Trees.{Tokens}
use Rattle.rules.specs.Declarations.{Word}
use Rattle.rules.specs.Whole.Sets.{any_name, member}
use Rattle.records.specs.Holds.{kind_byte, token_at}
use Rattle.records.specs.Words.{word_at}
use Rattle.reading.specs.Kinds.{next_no, stores, tests, begins, ends, closes, mode}
use Rattle.reading.specs.Reading.{Kinded}
use Rattle.reading.specs.Laws.Reading.{next_token, no_more}
use Rattle.reading.specs.Events.{Event, reads, writes, activates, halts, acting_event, name_event, event, heard}
use Rattle.reading.specs.Touches.{any_event}
use Rattle.reading.specs.Laws.Touches.{call_hit}
use Rattle.table.specs.Scans.{no as number, deeper}
use Rattle.reading.specs.Calls.{calls_of, NextCall, Activates}

pub any_call : (p : Word → Bool) (es : List Event) → any_name p (calls_of es) ≡ any_event (call_hit p) es
unfolding calls_of any_name any_event
any_call p [] = refl
any_call p (reads w ∷ es) = any_call p es
any_call p (writes w ∷ es) = any_call p es
any_call p (activates w ∷ es) = ap (λ (b : Bool). p w || b) (any_call p es)
any_call p (halts ∷ es) = any_call p es

pub calls_append : (xs ys : List Event) → calls_of (xs ++ ys) ≡ calls_of xs ++ calls_of ys
unfolding calls_of
calls_append [] ys = refl
calls_append (reads w ∷ xs) ys = calls_append xs ys
calls_append (writes w ∷ xs) ys = calls_append xs ys
calls_append (activates w ∷ xs) ys = ap (λ (l : List Word). w ∷ l) (calls_append xs ys)
calls_append (halts ∷ xs) ys = calls_append xs ys

-- one token at a time
module _ (d m : ℕ) (t : Token) (ts : Tokens) where
  pub heard_ends : ends d (number t) ≡ true → heard d m (t ∷ ts) ≡ []
  unfolding heard
  heard_ends e = rw (e, heard)

  pub heard_closes : ends d (number t) ≡ false → closes d (number t) ≡ true → heard d m (t ∷ ts) ≡ event m t (next_no ts)
  unfolding heard
  heard_closes e c = rw (e, heard, c, append-nil)

  pub heard_on : ends d (number t) ≡ false → closes d (number t) ≡ false → heard d m (t ∷ ts) ≡ event m t (next_no ts) ++ heard (deeper d (number t))
      (mode m (number t)) ts
  unfolding heard
  heard_on e c = rw (e, heard, c)

-- which tokens activate: a name in front of `(` where an action begins
module _ (m : ℕ) (t : Token) (k : ℕ) where
  pub calls_name : number t ≡ kind_no Name → m ≡ 0 → k ≡ kind_no LPar → event m t k ≡ activates t.info.word ∷ []
  unfolding event name_event acting_event
  calls_name e z h = rw (eq-eqb (number t) (kind_no Name) e, event, z, eq-eqb k (kind_no LPar) h, acting_event)

  other : (number t ≡ kind_no Name → ⊥) → calls_of (event m t k) ≡ []
  unfolding event calls_of
  other n = rw (ne_eqb (number t) (kind_no Name) n, event) (by (eqb (number t) (kind_no STOP)))
    where
      by : (b : Bool) → calls_of (elim b [ true ↦ halts ∷ [] | false ↦ [] ]) ≡ []
      by true = refl
      by false = refl

  reading : (m ≡ 0 → ⊥) → calls_of (name_event m t.info.word k) ≡ []
  unfolding name_event calls_of
  reading n = by m n
    where
      by : (m : ℕ) → (m ≡ 0 → ⊥) → calls_of (name_event m t.info.word k) ≡ []
      by zero n = absurd (n refl)
      by (suc m) n = refl

  storing : (k ≡ kind_no LPar → ⊥) → calls_of (acting_event t.info.word k) ≡ []
  unfolding acting_event calls_of
  storing n = rw (ne_eqb k 3 n, acting_event) (by (stores k))
    where
      by : (b : Bool) → calls_of (elim b [ true ↦ writes t.info.word ∷ [] | false ↦ [] ]) ≡ []
      by true = refl
      by false = refl

  pub calls_nothing : (number t ≡ kind_no Name → m ≡ 0 → k ≡ kind_no LPar → ⊥) → calls_of (event m t k) ≡ []
  unfolding event name_event
  calls_nothing n = by (dec_lt 0 (number t)) (dec_lt 0 m)
    where
      by : Dec (0 < number t) → Dec (0 < m) → calls_of (event m t k) ≡ []
      by (yes h) _ = other (λ e. omega arith)
      by (no h) (yes q) = let e : number t ≡ kind_no Name = omega arith in rw (eq-eqb (number t) (kind_no Name) e, event) (reading (λ z. omega arith))
      by (no h) (no q) = let e : number t ≡ kind_no Name = omega arith in let z : m ≡ 0 = omega arith in rw (eq-eqb (number t) (kind_no Name) e, event, z) (storing (n e z))

-- a search for the next activation that has come to the token i
pub record Searching (records : List ℕ) (n at depth from d m i : ℕ) : Type 0 where
  pub low : at ≤ i
  pub shallow : d ≤ i
  pub counted : m ≤ i + 1
  pub kinds : Kinded records n
  pub left : (v : Kinded records n) → calls_of (heard depth from (drop at v.tokens)) ≡ calls_of (heard d m (drop i v.tokens))

pub settled : {records : List ℕ} {n at depth from name next deep new_mode : ℕ} → n ≤ name
    → ((v : Kinded records n) → calls_of (heard depth from (drop at v.tokens)) ≡ []) → NextCall records n at depth from name next deep new_mode
settled l h = record { found = λ x. absurd (omega arith); nothing = λ x v. h v }

module _ {records : List ℕ} {n at depth from d m i : ℕ} (inv : Searching records n at depth from d m i) where
  pub exhausted : {a b c e : ℕ} → n ≤ a → n ≤ i → NextCall records n at depth from a b c e
  unfolding heard calls_of
  exhausted l h = settled l (λ v. inv.left v ∙ ap (λ (x : Tokens). calls_of (heard d m x)) (no_more v i h))

  module _ {k : ℕ} (h : i < n) (q : k ≡ kind_byte records i) {r : Bool} (e : r ≡ ends d k) where
    here : (v : Kinded records n) → calls_of (heard depth from (drop at v.tokens)) ≡ calls_of (heard d m (token_at v.tokens i ∷ drop (i + 1) v.tokens))
    here v = inv.left v ∙ ap (λ (x : Tokens). calls_of (heard d m x)) (next_token v i h)

    kind_is : (v : Kinded records n) → k ≡ number (token_at v.tokens i)
    kind_is v = q ∙ v.kind i h

    pub ended : {a b c e : ℕ} → n ≤ a → r ≡ true → NextCall records n at depth from a b c e
    unfolding calls_of
    ended l t = settled l (λ v. here v ∙ ap calls_of (heard_ends d m _ _ (sym (ap (ends d) (kind_is v)) ∙ (sym e ∙ t))))

    goes_on : r ≡ false → (v : Kinded records n) → ends d (number (token_at v.tokens i)) ≡ false
    goes_on f v = sym (ap (ends d) (kind_is v)) ∙ (sym e ∙ f)

    module _ (f : r ≡ false) {s : Bool} (g : (v : Kinded records n) → Activates s k m (next_no (drop (i + 1) v.tokens))) where
      activated : s ≡ true → (v : Kinded records n) → Activates true k m (next_no (drop (i + 1) v.tokens))
      activated t v = subst (λ (b : Bool). Activates b k m (next_no (drop (i + 1) v.tokens))) t (g v)

      pub reached : s ≡ true → NextCall records n at depth from i (i + 1) d 0
      unfolding calls_of closes deeper mode tests begins member
      reached t = record {
        found = λ x. record {
          low = inv.low;
          high = omega arith;
          within = omega arith;
          is_name = sym q ∙ (activated t inv.kinds).0;
          shallow = omega (arith, inv.shallow);
          counted = omega arith;
          calls = λ v.
              let y = activated t v in
              let t = token_at v.tokens i in
              let rest = drop (i + 1) v.tokens in
              let z : number t ≡ kind_no Name = sym (kind_is v) ∙ y.0 in
              here v
              ∙ (ap calls_of (heard_on d m t rest (goes_on f v) (ap (closes d) z))
              ∙ (ap (λ (x : List Event). calls_of (x ++ heard (deeper d (number t)) (mode m (number t)) rest))
              (calls_name m t (next_no rest) z y.1.0 y.1.1)
              ∙ ap₂ (λ (a b : ℕ). word_at v.tokens i ∷ calls_of (heard a b rest)) (ap (deeper d) z) (ap (mode m) z ∙ y.1.0)));
        };
        nothing = λ x. absurd (omega arith);
      }

      module _ (u : s ≡ false) where
        silent : (v : Kinded records n) → calls_of (event m (token_at v.tokens i) (next_no (drop (i + 1) v.tokens))) ≡ []
        silent v =
            calls_nothing m (token_at v.tokens i) (next_no (drop (i + 1) v.tokens))
            (λ z. subst (λ (b : Bool). Activates b k m (next_no (drop (i + 1) v.tokens))) u (g v) (kind_is v ∙ z))

        module _ {w : Bool} (o : w ≡ closes d k) where
          pub shut : {a b c e : ℕ} → n ≤ a → w ≡ true → NextCall records n at depth from a b c e
          shut l t =
              settled l (λ v. here v
              ∙ (ap calls_of (heard_closes d m _ _ (goes_on f v) (sym (ap (closes d) (kind_is v)) ∙ (sym o ∙ t))) ∙ silent v))

          pub onward : {x y : ℕ} → w ≡ false → x ≡ deeper d k → x ≤ d + 1 → y ≡ mode m k → y ≤ m + 1 → Searching records n at depth from x y (i + 1)
          onward {x} {y} t a b c z = record {
            low = omega (arith, inv.low);
            shallow = omega (arith, inv.shallow);
            counted = omega (arith, inv.counted);
            kinds = inv.kinds;
            left = λ v.
                let t₁ = token_at v.tokens i in
                let rest = drop (i + 1) v.tokens in
                here v
                ∙ (ap calls_of (heard_on d m t₁ rest (goes_on f v) (sym (ap (closes d) (kind_is v)) ∙ (sym o ∙ t)))
                ∙ (calls_append (event m t₁ (next_no rest)) _
                ∙ (ap (λ (l : List Word). l ++ calls_of (heard (deeper d (number t₁)) (mode m (number t₁)) rest)) (silent v)
                ∙ ap₂ (λ (a b : ℕ). calls_of (heard a b rest)) (sym (a ∙ ap (deeper d) (kind_is v))) (sym (c ∙ ap (mode m) (kind_is v))))));
          }
