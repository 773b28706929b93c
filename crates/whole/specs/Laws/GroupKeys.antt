-- Laws of the least key of a group's members, kept while they are read one after the other.
use Prim.Native.Nat.{ℕ, ◌+◌, ◌<◌, ◌≤◌, min}
use Rattle.std.specs.Prelude.{◌≡◌, refl, Bool, true, false, ◌||◌, List, [], ◌∷◌, ◌++◌}
use Rattle.std.proofs.Math.Path.{sym, ap, ap₂}
use Rattle.std.proofs.Common.{◌∙◌, arith, eq-eqb, ne_eqb}
use Rattle.std.proofs.Math.Decide.{dec_lt}
use Rattle.std.proofs.Math.Dec.{eqb}
use Rattle.std.proofs.Math.ListN.{drop}
use Rattle.rules.specs.Text.Tokens.{Token, Semi, kind_no}
use Rattle.rules.specs.Declarations.{Word, Table}
use Rattle.rules.specs.Grammar.Trees.{Tokens}
use Rattle.rules.specs.Whole.Sets.{Sets, sets, union, body_sets, member, meet, race}
use Rattle.rules.specs.Limits.{longest_chain}
use Rattle.rules.specs.Faults.Fault.{fault, when}
use Rattle.records.specs.Holds.{place_cell, token_at}
use Rattle.keys.specs.Keys.{no_key, number_key, least_number_key}
use Rattle.keys.specs.Laws.Keys.{least_append, least_bounded, least_none}
use Rattle.laws_orders.proofs.Orders.Tests.{member_append}
use Rattle.reading.specs.Kinds.{next_no}
use Rattle.reading.specs.Reading.{Reading, table_of, Kinded}
use Rattle.reading.specs.Laws.Reading.{kinded, next_token, no_more}
use Rattle.reading.specs.Events.{heard}
use Rattle.reading.specs.Calls.{calls_of}
use Rattle.reading.specs.Laws.Races.{touch_reads, touch_writes}
use Rattle.reading.specs.Bits.{holds}
use Rattle.chains.specs.Laws.Least.{when_key}
use Rattle.gathering.specs.Shown.{Shown, AllRecalled, Gathers}
use Rattle.gathering.specs.Filling.{Complete}
use Rattle.reading.specs.Behind.{behind}
use Rattle.scopes.specs.Laws.Walks.{min_assoc}
use Rattle.reading.specs.Groups.{place_of, more, touch_at, stops_at, member_at, also_at, members_at, group_at}
use Rattle.reading.specs.Laws.Groups.{onward, also_onward}
use Rattle.table.specs.Scans.{no as number}
use Rattle.whole.specs.GroupKeys.{Holding}

pub holding_none : {r w : List ℕ} → ((k : ℕ) → holds r k ≡ false) → ((k : ℕ) → holds w k ≡ false) → Holding r w (sets [] [])
unfolding member
holding_none a b = record { reading = a; writing = b }

both_held : (a b c : List ℕ) (xs ys : List ℕ) → ((k : ℕ) → holds c k ≡ (holds a k || holds b k)) → ((k : ℕ) → holds a k ≡ member k xs)
    → ((k : ℕ) → holds b k ≡ member k ys)
    → (k : ℕ) → holds c k ≡ member k (xs ++ ys)
both_held a b c xs ys h p q k = h k ∙ (ap₂ ◌||◌ (p k) (q k) ∙ sym (member_append k xs ys))

pub holding_union : {r w r₁ w₁ r₂ w₂ : List ℕ} {s t : Sets} → Holding r w s → Holding r₁ w₁ t → ((k : ℕ) → holds r₂ k ≡ (holds r k || holds r₁ k))
    → ((k : ℕ) → holds w₂ k ≡ (holds w k || holds w₁ k)) → Holding r₂ w₂ (union s t)
holding_union {r} {w} {r₁} {w₁} {r₂} {w₂} {s} {t} x y a b = record {
  reading = both_held r r₁ r₂ s.reads t.reads a x.reading y.reading;
  writing = both_held w w₁ w₂ s.writes t.writes b x.writing y.writing;
}

-- two tests of a race
abbrev pub Meets : Bool → List ℕ → List ℕ → Type 0
Meets b x y = (xs ys : List ℕ) → ((k : ℕ) → holds x k ≡ member k xs) → ((k : ℕ) → holds y k ≡ member k ys) → b ≡ meet xs ys

module _ (r w r₁ w₁ : List ℕ) where
  module _ (all all₁ : List ℕ) (u : (k : ℕ) → holds all k ≡ (holds r k || holds w k)) (u₁ : (k : ℕ) → holds all₁ k ≡ (holds r₁ k || holds w₁ k)) where
    pub race_first : {b : Bool} → Meets b w all₁ → b ≡ true → (s t : Sets) → Holding r w s → Holding r₁ w₁ t → true ≡ race s t
    unfolding race
    race_first h e s t x y =
        sym (ap (λ (c : Bool). c || meet t.writes (s.reads ++ s.writes))
        (sym (h s.writes (t.reads ++ t.writes) x.writing (both_held r₁ w₁ all₁ t.reads t.writes u₁ y.reading y.writing)) ∙ e))

    pub race_second : {b c : Bool} → Meets b w all₁ → b ≡ false → Meets c w₁ all → (s t : Sets) → Holding r w s → Holding r₁ w₁ t → c ≡ race s t
    unfolding race
    race_second h e g s t x y =
        g t.writes (s.reads ++ s.writes) y.writing (both_held r w all s.reads s.writes u x.reading x.writing)
        ∙ sym (ap (λ (d : Bool). d || meet t.writes (s.reads ++ s.writes))
        (sym (h s.writes (t.reads ++ t.writes) x.writing (both_held r₁ w₁ all₁ t.reads t.writes u₁ y.reading y.writing)) ∙ e))

-- 52 comes before 53
module _ {place key : ℕ} (small : place ≤ 32768) where
  pub stopped_key : {s : Bool} → s ≡ true → key ≡ number_key (fault 52 place) → (x : Bool) → key ≡ least_number_key (when s 52 place ++ when x 53 place)
  stopped_key {s} e h x =
      sym (ap (λ (b : Bool). least_number_key (when b 52 place ++ when x 53 place)) e
      ∙ (least_append number_key (when true 52 place) (when x 53 place) ∙ by x (when_key x 53 place (omega arith) small)))
    where
      by : (x : Bool) → least_number_key (when x 53 place) ≡ elim x [ true ↦ number_key (fault 53 place) | false ↦ no_key ]
          → min (least_number_key (when true 52 place)) (least_number_key (when x 53 place)) ≡ key
      by true q = omega (arith, when_key true 52 place (omega arith) small)
      by false q = omega (arith, when_key true 52 place (omega arith) small)

  pub raced_key : {s x : Bool} → s ≡ false → x ≡ true → key ≡ number_key (fault 53 place) → key ≡ least_number_key (when s 52 place ++ when x 53 place)
  raced_key {s} {x} e f h =
      sym (ap₂ (λ (b c : Bool). least_number_key (when b 52 place ++ when c 53 place)) e f ∙ (when_key true 53 place (omega arith) small ∙ sym h))

pub sound_key : {s x : Bool} (place : ℕ) → s ≡ false → x ≡ false → no_key ≡ least_number_key (when s 52 place ++ when x 53 place)
sound_key place e f = sym (ap₂ (λ (b c : Bool). least_number_key (when b 52 place ++ when c 53 place)) e f ∙ least_none number_key)

-- the place of the token i
module _ {records decls : List ℕ} {m n i : ℕ} where
  pub place_there : {p : ℕ} → i < n → p ≡ place_cell records i → (v : Reading records decls m n) → p ≡ place_of (drop i v.tokens)
  place_there h e v = e ∙ ((v.ready.holds.entry i (omega (arith, v.count))).place ∙ sym (ap place_of (next_token (kinded v) i h)))

  pub place_past : n ≤ i → (v : Reading records decls m n) → 0 ≡ place_of (drop i v.tokens)
  place_past h v = sym (ap place_of (no_more (kinded v) i h))

  pub place_bound : {p : ℕ} → i < n → p ≡ place_cell records i → Reading records decls m n → p ≤ 32768
  place_bound h e v = let x = v.ready.holds.entry i (omega (arith, v.count)) in omega (arith, e, x.place, x.inside, v.ready.holds.short)

-- what is gathered of the action at i
module _ {records decls memo : List ℕ} {m n : ℕ} (i : ℕ) (r w : List ℕ) (s : Bool) (c : Complete records decls memo m n) (g : Gathers records decls memo m n i r w s) (v : Reading records decls m n) where
  all_recalled : (ws : List Word) → AllRecalled v memo ws
  all_recalled [] = tt
  all_recalled (x ∷ ws) = (c.recalls v x, all_recalled ws)

  shown : Shown v r w s (heard 0 0 (drop i v.tokens))
  shown = g v (all_recalled (calls_of (heard 0 0 (drop i v.tokens))))

  pub action_held : Holding r w (touch_at (table_of v) (drop i v.tokens))
  unfolding touch_at
  action_held = record {
    reading = λ k. shown.reading k ∙ sym (touch_reads (table_of v) (body_sets (table_of v) longest_chain) k (heard 0 0 (drop i v.tokens)));
    writing = λ k. shown.writing k ∙ sym (touch_writes (table_of v) (body_sets (table_of v) longest_chain) k (heard 0 0 (drop i v.tokens)));
  }

  pub action_stops : s ≡ stops_at (table_of v) (drop i v.tokens)
  unfolding stops_at
  action_stops = shown.stopping

no_onward : (ds : Table) (u : Sets) (ts : Tokens) → (next_no ts ≡ kind_no Semi → ⊥) → onward ds u ts ≡ []
unfolding onward
no_onward ds u [] n = refl
no_onward ds u (t ∷ ts) n = rw (ne_eqb (number t) (kind_no Semi) n, onward)

onward_semi : (ds : Table) (u : Sets) (t : Token) (ts : Tokens) → number t ≡ 10 → onward ds u (t ∷ ts) ≡ members_at ds u ts
unfolding onward
onward_semi ds u t ts e = rw (eq-eqb (number t) (kind_no Semi) e, onward)

-- the members of the group at `from`, up to the one at i
pub record Comparing (records decls memo : List ℕ) (m n from : ℕ) (r w : List ℕ) (key i : ℕ) : Type 0 where
  pub reading : Reading records decls m n
  pub complete : Complete records decls memo m n
  pub small : key ≤ no_key
  pub so_far : (v : Reading records decls m n) → (u : Sets) × Holding r w u
      × (min key (least_number_key (members_at (table_of v) u (drop i v.tokens))) ≡ least_number_key (members_at (table_of v) (sets [] []) (drop from v.tokens)))
  pub later : (i ≡ from → ⊥) → (v : Kinded records n) → more (drop from v.tokens) ≡ true

pub compare_none : {records decls memo : List ℕ} {m n : ℕ} (from : ℕ) {r w : List ℕ} → Reading records decls m n → Complete records decls memo m n
    → ((k : ℕ) → holds r k ≡ false)
    → ((k : ℕ) → holds w k ≡ false) → Comparing records decls memo m n from r w no_key from
compare_none from x c a b = record {
  reading = x;
  complete = c;
  small = omega arith;
  so_far = λ v. (sets [] [], holding_none a b, omega (arith, least_bounded number_key (members_at (table_of v) (sets [] []) (drop from v.tokens))));
  later = λ ne. absurd (ne refl);
}

-- `;` is a token
pub end_inside : {records : List ℕ} {n k : ℕ} (e : ℕ) → Kinded records n → ((v : Kinded records n) → k ≡ next_no (drop e v.tokens)) → k ≡ kind_no Semi → e < n
end_inside {n = n} e v kind h = by (dec_lt e n)
  where
    by : Dec (e < n) → e < n
    by (yes l) = l
    by (no l) = absurd (let past : n ≤ e = omega arith in omega (arith, kind v, ap next_no (no_more v e past)))

-- the faults of a group, if it has two or more members
module _ {records decls : List ℕ} {m n : ℕ} (from : ℕ) {b : Bool} (tells : (v : Kinded records n) → b ≡ more (drop from v.tokens)) where
  group_some : {r : ℕ} → b ≡ true → ((v : Reading records decls m n) → r ≡ least_number_key (members_at (table_of v) (sets [] []) (drop from v.tokens)))
      → (v : Reading records decls m n) → r ≡ least_number_key (group_at (table_of v) (drop from v.tokens))
  unfolding group_at
  group_some e h v = h v ∙ sym (rw (sym (tells (kinded v)) ∙ e, group_at))

  group_none : b ≡ false → (v : Reading records decls m n) → no_key ≡ least_number_key (group_at (table_of v) (drop from v.tokens))
  unfolding group_at
  group_none e v = sym (rw (sym (tells (kinded v)) ∙ e, group_at) (least_none number_key))

-- a turn: what is gathered of the member at i, its key, and where it ends
pub record Turn (records decls memo : List ℕ) (m n : ℕ) (r w : List ℕ) (key i : ℕ) (r₁ w₁ : List ℕ) (s : Bool) (next e k : ℕ) : Type 0 where
  pub gathered : Gathers records decls memo m n i r₁ w₁ s
  pub place : ℕ
  pub place_is : (v : Reading records decls m n) → place ≡ place_of (drop i v.tokens)
  pub own : ℕ
  pub own_is : (a b : Sets) → Holding r w a → Holding r₁ w₁ b → own ≡ least_number_key (when s 52 place ++ when (race a b) 53 place)
  pub least : next ≡ min key own
  pub ends : (v : Kinded records n) → drop e v.tokens ≡ behind 0 (drop i v.tokens)
  pub kind : (v : Kinded records n) → k ≡ next_no (drop e v.tokens)

module _ {records decls memo : List ℕ} {m n from : ℕ} {r w : List ℕ} {key i : ℕ} (inv : Comparing records decls memo m n from r w key i)
    {r₁ w₁ : List ℕ} {s : Bool} {next : ℕ} (e : ℕ) {k : ℕ} (x : Turn records decls memo m n r w key i r₁ w₁ s next e k) where
  -- with the member at i, and what its end leads to
  with_member : (v : Reading records decls m n) → let u = (inv.so_far v).0 in
      min next (least_number_key (onward (table_of v) (union u (touch_at (table_of v) (drop i v.tokens))) (drop e v.tokens))) ≡ least_number_key
      (members_at (table_of v) (sets [] []) (drop from v.tokens))
  unfolding members_at member_at
  with_member v =
      let y = inv.so_far v in
      let u = y.0 in
      let ts = drop i v.tokens in
      let t = touch_at (table_of v) ts in
      let one : least_number_key (member_at (table_of v) u ts) ≡ x.own =
      sym (x.own_is u t y.1 (action_held i r₁ w₁ s inv.complete x.gathered v)
      ∙ (ap (λ (y : ℕ). least_number_key (when s 52 y ++ when (race u t) 53 y)) (x.place_is v)
      ∙ ap (λ (b : Bool). least_number_key (when b 52 (place_of ts) ++ when (race u t) 53 (place_of ts)))
      (action_stops i r₁ w₁ s inv.complete x.gathered v))) in
      let two : least_number_key (also_at (table_of v) 0 (union u t) ts) ≡ least_number_key (onward (table_of v) (union u t) (drop e v.tokens)) =
      ap least_number_key (also_onward (table_of v) 0 (union u t) ts ∙ ap (onward (table_of v) (union u t)) (sym (x.ends (kinded v)))) in
      let both : least_number_key (members_at (table_of v) u ts) ≡ min x.own (least_number_key (onward (table_of v) (union u t) (drop e v.tokens))) =
      least_append number_key (member_at (table_of v) u ts) (also_at (table_of v) 0 (union u t) ts) ∙ ap₂ min one two in
      ap (λ (z : ℕ). min z (least_number_key (onward (table_of v) (union u t) (drop e v.tokens)))) x.least
      ∙ (min_assoc key x.own (least_number_key (onward (table_of v) (union u t) (drop e v.tokens))) ∙ (ap (min key) (sym both) ∙ y.2))

  -- whether the member at i is followed by another
  followed : (v : Kinded records n) → more (drop i v.tokens) ≡ eqb k (kind_no Semi)
  unfolding more
  followed v = ap (λ (ts : Tokens). eqb (next_no ts) (kind_no Semi)) (sym (x.ends v)) ∙ ap (λ (y : ℕ). eqb y (kind_no Semi)) (sym (x.kind v))

  last_member : (k ≡ kind_no Semi → ⊥) → (v : Reading records decls m n) → next ≡ least_number_key (members_at (table_of v) (sets [] []) (drop from v.tokens))
  last_member h v =
      let u = union (inv.so_far v).0 (touch_at (table_of v) (drop i v.tokens)) in
      let none_left : least_number_key (onward (table_of v) u (drop e v.tokens)) ≡ no_key =
      ap least_number_key (no_onward (table_of v) u (drop e v.tokens) (λ z. h (x.kind (kinded v) ∙ z))) ∙ least_none number_key in
      let small : next ≤ no_key = omega (arith, inv.small, x.least) in
      sym (ap (min next) none_left ∙ omega arith) ∙ with_member v

  -- the first member is the last
  pub one_member : (k ≡ kind_no Semi → ⊥) → i ≡ from → (v : Kinded records n) → false ≡ more (drop from v.tokens)
  one_member h e v = sym (ap (λ (y : ℕ). more (drop y v.tokens)) (sym e) ∙ (followed v ∙ ne_eqb k (kind_no Semi) h))

  pub one_key : (k ≡ kind_no Semi → ⊥) → i ≡ from → (v : Reading records decls m n) → no_key ≡ least_number_key (group_at (table_of v) (drop from v.tokens))
  one_key h e = group_none from (one_member h e) refl

  -- or a later one
  pub several_members : (i ≡ from → ⊥) → (v : Kinded records n) → true ≡ more (drop from v.tokens)
  several_members ne v = sym (inv.later ne v)

  pub several_key : (k ≡ kind_no Semi → ⊥) → (i ≡ from → ⊥) → (v : Reading records decls m n)
      → next ≡ least_number_key (group_at (table_of v) (drop from v.tokens))
  several_key h ne = group_some from (several_members ne) refl (last_member h)

  module _ (h : k ≡ kind_no Semi) where
    more_behind : Dec (i < from) → Dec (from < i) → (v : Kinded records n) → more (drop from v.tokens) ≡ true
    more_behind (yes l) _ v = inv.later (λ e. omega arith) v
    more_behind (no _) (yes l) v = inv.later (λ e. omega arith) v
    more_behind (no p) (no q) v =
        let e : from ≡ i = omega arith in
        ap (λ (y : ℕ). more (drop y v.tokens)) e ∙ (followed v ∙ eq-eqb k (kind_no Semi) h)

    pub next_member : {r₂ w₂ : List ℕ} → ((j : ℕ) → holds r₂ j ≡ (holds r j || holds r₁ j)) → ((j : ℕ) → holds w₂ j ≡ (holds w j || holds w₁ j))
        → Comparing records decls memo m n from r₂ w₂ next (e + 1)
    next_member a b = record {
      reading = inv.reading;
      complete = inv.complete;
      small = omega (arith, inv.small, x.least);
      so_far = λ v.
          let u = (inv.so_far v).0 in
          let t = touch_at (table_of v) (drop i v.tokens) in
          let here : drop e v.tokens ≡ token_at v.tokens e ∷ drop (e + 1) v.tokens = next_token (kinded v) e (end_inside e (kinded v) x.kind h) in
          let q : least_number_key (onward (table_of v) (union u t) (drop e v.tokens)) ≡ least_number_key (members_at (table_of v) (union u t) (drop (e + 1) v.tokens)) =
          ap least_number_key (ap (onward (table_of v) (union u t)) here ∙ onward_semi (table_of v) (union u t) _ _
          (sym (ap next_no here) ∙ (sym (x.kind (kinded v)) ∙ h))) in
          (union u t, holding_union (inv.so_far v).1 (action_held i r₁ w₁ s inv.complete x.gathered v) a b, ap (min next) (sym q) ∙ with_member v);
      later = λ ne. more_behind (dec_lt i from) (dec_lt from i);
    }
