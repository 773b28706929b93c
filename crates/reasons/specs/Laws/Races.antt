-- A reason that names a race is true of the text: both members stand in one group, the carrier is touched by both and written by one, and no earlier member
-- and no earlier carrier would do.
use Rattle.std.specs.Prelude.{ℕ, zero, suc, ◌-◌, ◌<◌, ◌≤◌, ◌≡◌, refl, Bool, true, false, List, [], ◌∷◌, ◌++◌, eqb, length}
use Rattle.std.proofs.Common.{sym, ap, ap₂, ◌∙◌, subst, arith, eqb-true}
use Rattle.std.proofs.Math.Option.{Option, none, some, none-ne-some, some-injective}
use Rattle.std.proofs.Math.Decide.{dec_lt}
use Rattle.std.proofs.lemmas.Bool.{eqb-false}
use Rattle.std.proofs.Math.ListN.{get_elem?}
use Rattle.rules.specs.Declarations.{Declared, Table}
use Rattle.rules.specs.Whole.Sets.{Sets, race}
use Rattle.rules.specs.Truth.{RaceStands, RaceAmong, FirstConflict, RaceTrue}
use Rattle.laws_orders.proofs.Orders.Tests.{impossible}
use Rattle.rules.specs.Reasons.{Member, earliest, Race, race_with, race_at, first_race, race_from, race_among, conflict, Carrier, first_conflict, writers, no_reason, racing, race_on, race_reason, reason53, groups_of}

-- the earliest member of a list that races with one
record Earliest (l : Member) (es : List Member) (e : Member) : Type 0 where
  number : ℕ
  there : get_elem? es number ≡ some e
  races : race e.touches l.touches ≡ true
  before : (i : ℕ) (x : Member) → i < number → get_elem? es i ≡ some x → race x.touches l.touches ≡ false

earliest_is : (l : Member) (es : List Member) (e : Member) → earliest l es ≡ some e → Earliest l es e
unfolding earliest
earliest_is l [] e q = absurd (none-ne-some e q)
earliest_is l (x ∷ es) e q = by (race x.touches l.touches) refl q (λ h. earliest_is l es e h)
  where
    by : (b : Bool) → race x.touches l.touches ≡ b → elim b [ true ↦ some x | false ↦ earliest l es ] ≡ some e → (earliest l es ≡ some e → Earliest l es e)
        → Earliest l (x ∷ es) e
    by true t h rest =
        let same = some-injective x e h in
        record { number = 0; there = h; races = subst (λ (y : Member). race y.touches l.touches ≡ true) same t; before = λ i y o f. absurd (omega arith) }
    by false t h rest =
        let r = rest h in
        record { number = suc r.number; there = r.there; races = r.races; before = earlier r }
      where
        earlier : (r : Earliest l es e) (i : ℕ) (y : Member) → i < suc r.number → get_elem? (x ∷ es) i ≡ some y → race y.touches l.touches ≡ false
        earlier r zero y o f = subst (λ (z : Member). race z.touches l.touches ≡ false) (some-injective x y f) t
        earlier r (suc i) y o f = r.before i y (omega arith) f

-- elements of two lists, one behind the other
found_short : (xs : List Member) (i : ℕ) (e : Member) → get_elem? xs i ≡ some e → i < length xs
found_short [] i e q = absurd (none-ne-some e q)
found_short (x ∷ xs) zero e q = omega arith
found_short (x ∷ xs) (suc i) e q = omega (arith, found_short xs i e q)

front : (xs ys : List Member) (i : ℕ) → i < length xs → get_elem? (xs ++ ys) i ≡ get_elem? xs i
front [] ys i h = absurd (omega arith)
front (x ∷ xs) ys zero h = refl
front (x ∷ xs) ys (suc i) h = front xs ys i (omega arith)

middle : (xs : List Member) (l : Member) (ys : List Member) → get_elem? (xs ++ (l ∷ ys)) (length xs) ≡ some l
middle [] l ys = refl
middle (x ∷ xs) l ys = middle xs l ys

append_one : (xs : List Member) (l : Member) (ys : List Member) → (xs ++ (l ∷ [])) ++ ys ≡ xs ++ (l ∷ ys)
append_one [] l ys = refl
append_one (x ∷ xs) l ys = ap (λ (zs : List Member). x ∷ zs) (append_one xs l ys)

-- the race of one member with those before it
race_at_lem : (p : ℕ) (before : List Member) (l : Member) (ls : List Member) (r : Race) → race_at p before l ≡ some r → RaceStands p (before ++ (l ∷ ls)) r
unfolding race_at
race_at_lem p before l ls r q = by (eqb l.place p) refl q
  where
    with_earlier : (o : Option Member) → earliest l before ≡ o → l.place ≡ p → race_with l o ≡ some r → RaceStands p (before ++ (l ∷ ls)) r
    with_earlier none e t h = absurd (none-ne-some r h)
    with_earlier (some x) e t h =
        let found = earliest_is l before x e in
        let small = found_short before found.number x found.there in
        let same = some-injective (record { earlier = x; later = l }) r h in
        subst (RaceStands p (before ++ (l ∷ ls))) same (record {
          first = found.number;
          second = length before;
          in_order = small;
          earlier_there = front before (l ∷ ls) found.number small ∙ found.there;
          later_there = middle before l ls;
          placed = t;
          races = found.races;
          earliest = λ i y o f. found.before i y o (sym (front before (l ∷ ls) i (omega arith)) ∙ f);
        })

    by : (b : Bool) → eqb l.place p ≡ b → elim b [ true ↦ race_with l (earliest l before) | false ↦ none ] ≡ some r → RaceStands p (before ++ (l ∷ ls)) r
    by true e h = with_earlier (earliest l before) refl (eqb-true l.place p e) h
    by false e h = absurd (none-ne-some r h)

race_from_lem : (p : ℕ) (before g : List Member) (r : Race) → race_from p before g ≡ some r → RaceStands p (before ++ g) r
unfolding race_from
race_from_lem p before [] r q = absurd (none-ne-some r q)
race_from_lem p before (l ∷ ls) r q = by (race_at p before l) refl q (λ h. race_from_lem p (before ++ (l ∷ [])) ls r h)
  where
    by : (o : Option Race) → race_at p before l ≡ o → first_race o (race_from p (before ++ (l ∷ [])) ls) ≡ some r
        → (race_from p (before ++ (l ∷ [])) ls ≡ some r → RaceStands p ((before ++ (l ∷ [])) ++ ls) r) → RaceStands p (before ++ (l ∷ ls)) r
    by (some x) e h rest = race_at_lem p before l ls r (e ∙ h)
    by none e h rest = subst (λ (g : List Member). RaceStands p g r) (append_one before l ls) (rest h)

pub race_among_lem : (p : ℕ) (gs : List (List Member)) (r : Race) → race_among p gs ≡ some r → RaceAmong p gs r
unfolding race_among
race_among_lem p [] r q = absurd (none-ne-some r q)
race_among_lem p (g ∷ gs) r q = by (race_from p [] g) refl q (λ h. race_among_lem p gs r h)
  where
    by : (o : Option Race) → race_from p [] g ≡ o → first_race o (race_among p gs) ≡ some r → (race_among p gs ≡ some r → RaceAmong p gs r) → RaceAmong p (g ∷ gs) r
    by (some x) e h rest = record { number = 0; group = g; there = refl; stands = race_from_lem p [] g r (e ∙ h) }
    by none e h rest = let x = rest h in record { number = suc x.number; group = x.group; there = x.there; stands = x.stands }

abbrev carrier_of : ℕ → ℕ → Carrier
carrier_of i j = record { number = i; place = j }

named_apart : {e l c n w : ℕ} → no_reason ≡ racing e l c n w → ◌≡◌ {A = ℕ} 0 1
named_apart h = cc

record ConflictFrom (s t : Sets) (k : ℕ) (ds : Table) (c : Carrier) : Type 0 where
  declared : Declared
  low : k ≤ c.number
  there : get_elem? ds (c.number - k) ≡ some declared
  named : declared.name.place ≡ c.place
  shared : conflict s t c.number ≡ true
  first : (i : ℕ) → k ≤ i → i < c.number → conflict s t i ≡ false

conflict_from : (s t : Sets) (k : ℕ) (ds : Table) (c : Carrier) → first_conflict s t k ds ≡ some c → ConflictFrom s t k ds c
unfolding first_conflict
conflict_from s t k [] c q = absurd (none-ne-some c q)
conflict_from s t k (d ∷ ds) c q = by (conflict s t k) refl q (λ h. conflict_from s t (suc k) ds c h)
  where
    by : (b : Bool) → conflict s t k ≡ b → elim b [ true ↦ some (record { number = k; place = d.name.place }) | false ↦ first_conflict s t (suc k) ds ] ≡ some c
        → (first_conflict s t (suc k) ds ≡ some c → ConflictFrom s t (suc k) ds c) → ConflictFrom s t k (d ∷ ds) c
    by true e h rest =
        subst (ConflictFrom s t k (d ∷ ds)) (some-injective _ c h) (record {
          declared = d;
          low = omega arith;
          there = ap (get_elem? (d ∷ ds)) (let z : k - k ≡ 0 = omega arith in z);
          named = refl;
          shared = e;
          first = λ i l o. absurd (omega arith);
        })
    by false e h rest =
        let r = rest h in
        record {
          declared = r.declared;
          low = omega (arith, r.low);
          there = ap (get_elem? (d ∷ ds)) (let z : c.number - k ≡ suc (c.number - suc k) = omega (arith, r.low) in z) ∙ r.there;
          named = r.named;
          shared = r.shared;
          first = earlier r;
        }
      where
        earlier : (r : ConflictFrom s t (suc k) ds c) (i : ℕ) → k ≤ i → i < c.number → conflict s t i ≡ false
        earlier r i l o = at (eqb i k) refl
          where
            at : (b : Bool) → eqb i k ≡ b → conflict s t i ≡ false
            at true z = ap (conflict s t) (eqb-true i k z) ∙ e
            at false z = let ne = eqb-false i k z in r.first i (above (dec_lt k i) ne) o
              where
                above : Dec (k < i) → (i ≡ k → ⊥) → suc k ≤ i
                above (yes h) ne = omega arith
                above (no h) ne = absurd (ne (omega arith))

pub first_conflict_lem : (s t : Sets) (ds : Table) (c : Carrier) → first_conflict s t 0 ds ≡ some c → FirstConflict s t ds c
first_conflict_lem s t ds c q =
    let x = conflict_from s t 0 ds c q in
    record { declared = x.declared; there = ap (get_elem? ds) (let z : c.number ≡ c.number - 0 = omega arith in z) ∙ x.there; named = x.named; shared = x.shared; first = λ i o. x.first i (omega arith) o }

-- WHAT A RACE SAYS IS TRUE: where the reason of 53 at p names a race, these members stand in a group of a body and the carrier is in conflict.
pub race_true : (ds : Table) (p e l c n w : ℕ) → reason53 ds p ≡ racing e l c n w → RaceTrue ds p e l c n w
unfolding reason53
race_true ds p e l c n w q = by (race_among p (groups_of ds ds)) refl q
  where
    on : (r : Race) (o : Option Carrier) → race_among p (groups_of ds ds) ≡ some r → first_conflict r.earlier.touches r.later.touches 0 ds ≡ o
        → race_on r o ≡ racing e l c n w → RaceTrue ds p e l c n w
    on r none g f h = impossible (named_apart h)
    on r (some x) g f h =
        let a : r.earlier.place ≡ e = cc in
        let b : r.later.place ≡ l = cc in
        let k : x.number ≡ c = cc in
        let m : x.place ≡ n = cc in
        let y : writers r.earlier.touches r.later.touches x.number ≡ w = cc in
        record {
          race = r;
          among = race_among_lem p (groups_of ds ds) r g;
          earlier_is = a;
          later_is = b;
          conflicting = subst (FirstConflict r.earlier.touches r.later.touches ds) (ap₂ (λ (i j : ℕ). carrier_of i j) k m)
              (first_conflict_lem r.earlier.touches r.later.touches ds x f);
          who_is = sym (ap (writers r.earlier.touches r.later.touches) (sym k) ∙ y);
        }

    by : (o : Option Race) → race_among p (groups_of ds ds) ≡ o → race_reason ds o ≡ racing e l c n w → RaceTrue ds p e l c n w
    by none g h = impossible (named_apart h)
    by (some r) g h = on r (first_conflict r.earlier.touches r.later.touches 0 ds) g refl h
