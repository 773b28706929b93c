-- Members that stand at the same places and touch the same carriers have the same races.
use Rattle.std.specs.Prelude.{ℕ, suc, ◌≡◌, refl, List, [], ◌∷◌, ◌++◌, eqb}
use Rattle.std.proofs.Common.{sym, ap, ap₂, ◌∙◌, subst}
use mathlib.Core.Bool.{Bool, true, false, ◌&&◌, ◌||◌, or_comm}
use Rattle.std.proofs.Math.Option.{Option, none, some}
use Rattle.rules.specs.Declarations.{Table}
use Rattle.rules.specs.Whole.Sets.{Sets, race, member, meet}
use Rattle.laws_orders.proofs.Orders.Tests.{member_append}
use Rattle.reading.specs.Laws.Races.{AlikeSets, race_alike}
use Rattle.rules.specs.Reasons.{Member, earliest, Race, race_with, race_at, first_race, race_from, race_among, conflict, Carrier, first_conflict, writers, writers_by, racing, race_on, race_reason}

pub record AlikeMember (x y : Member) : Type 0 where
  pub place : x.place ≡ y.place
  pub touches : AlikeSets x.touches y.touches

abbrev pub AlikeMembers : List Member → List Member → Type 0
AlikeMembers [] [] = Unit {0}
AlikeMembers [] (y ∷ ys) = ⊥
AlikeMembers (x ∷ xs) [] = ⊥
AlikeMembers (x ∷ xs) (y ∷ ys) = AlikeMember x y × AlikeMembers xs ys

abbrev pub AlikeChosen : Option Member → Option Member → Type 0
AlikeChosen none none = Unit {0}
AlikeChosen none (some y) = ⊥
AlikeChosen (some x) none = ⊥
AlikeChosen (some x) (some y) = AlikeMember x y

pub record AlikeRace (r q : Race) : Type 0 where
  pub earlier : AlikeMember r.earlier q.earlier
  pub later : AlikeMember r.later q.later

abbrev pub AlikeRaces : Option Race → Option Race → Type 0
AlikeRaces none none = Unit {0}
AlikeRaces none (some y) = ⊥
AlikeRaces (some x) none = ⊥
AlikeRaces (some x) (some y) = AlikeRace x y

race_sym : (s t : Sets) → race s t ≡ race t s
unfolding race
race_sym s t = or_comm (meet s.writes (t.reads ++ t.writes)) (meet t.writes (s.reads ++ s.writes))

race_both : (e l f k : Sets) → AlikeSets e f → AlikeSets l k → race e l ≡ race f k
race_both e l f k a b = race_alike e l k b ∙ (race_sym e k ∙ (race_alike k e f a ∙ race_sym k f))

alike_earliest : (l k : Member) (xs ys : List Member) → AlikeMember l k → AlikeMembers xs ys → AlikeChosen (earliest l xs) (earliest k ys)
unfolding earliest
alike_earliest l k [] [] a x = tt
alike_earliest l k [] (y ∷ ys) a x = absurd x
alike_earliest l k (x ∷ xs) [] a z = absurd z
alike_earliest l k (x ∷ xs) (y ∷ ys) a z =
    by (race x.touches l.touches) (race y.touches k.touches) (race_both x.touches l.touches y.touches k.touches z.0.touches a.touches)
    (alike_earliest l k xs ys a z.1)
  where
    by : (b c : Bool) → b ≡ c → AlikeChosen (earliest l xs) (earliest k ys) → AlikeChosen (elim b [ true ↦ some x | false ↦ earliest l xs ]) (elim c [ true ↦ some y | false ↦ earliest k ys ])
    by true true e r = z.0
    by true false e r = absurd (mathlib.Core.Bool.false≢true (sym e))
    by false true e r = absurd (mathlib.Core.Bool.false≢true e)
    by false false e r = r

alike_with : (l k : Member) (o q : Option Member) → AlikeMember l k → AlikeChosen o q → AlikeRaces (race_with l o) (race_with k q)
alike_with l k none none a x = tt
alike_with l k none (some y) a x = absurd x
alike_with l k (some x) none a z = absurd z
alike_with l k (some x) (some y) a z = record { earlier = z; later = a }

alike_at : (p : ℕ) (xs ys : List Member) (l k : Member) → AlikeMembers xs ys → AlikeMember l k → AlikeRaces (race_at p xs l) (race_at p ys k)
unfolding race_at
alike_at p xs ys l k x a = by (eqb l.place p) (eqb k.place p) (ap (λ (q : ℕ). eqb q p) a.place)
  where
    by : (b c : Bool) → b ≡ c → AlikeRaces (elim b [ true ↦ race_with l (earliest l xs) | false ↦ none ]) (elim c [ true ↦ race_with k (earliest k ys) | false ↦ none ])
    by true true e = alike_with l k (earliest l xs) (earliest k ys) a (alike_earliest l k xs ys a x)
    by true false e = absurd (mathlib.Core.Bool.false≢true (sym e))
    by false true e = absurd (mathlib.Core.Bool.false≢true e)
    by false false e = tt

pub alike_first : (o q r s : Option Race) → AlikeRaces o r → AlikeRaces q s → AlikeRaces (first_race o q) (first_race r s)
alike_first none q none s x y = y
alike_first none q (some r) s x y = absurd x
alike_first (some o) q none s x y = absurd x
alike_first (some o) q (some r) s x y = x

alike_append : (xs ys : List Member) (l k : Member) → AlikeMembers xs ys → AlikeMember l k → AlikeMembers (xs ++ (l ∷ [])) (ys ++ (k ∷ []))
alike_append [] [] l k x a = (a, tt)
alike_append [] (y ∷ ys) l k x a = absurd x
alike_append (x ∷ xs) [] l k z a = absurd z
alike_append (x ∷ xs) (y ∷ ys) l k z a = (z.0, alike_append xs ys l k z.1 a)

pub alike_from : (p : ℕ) (xs ys g h : List Member) → AlikeMembers xs ys → AlikeMembers g h → AlikeRaces (race_from p xs g) (race_from p ys h)
unfolding race_from
alike_from p xs ys [] [] x z = tt
alike_from p xs ys [] (k ∷ h) x z = absurd z
alike_from p xs ys (l ∷ g) [] x z = absurd z
alike_from p xs ys (l ∷ g) (k ∷ h) x z =
    alike_first (race_at p xs l) (race_from p (xs ++ (l ∷ [])) g) (race_at p ys k) (race_from p (ys ++ (k ∷ [])) h) (alike_at p xs ys l k x z.0)
    (alike_from p (xs ++ (l ∷ [])) (ys ++ (k ∷ [])) g h (alike_append xs ys l k x z.0) z.1)

-- groups that match: those of one member alone do not count
pub data Matches : List (List Member) → List (List Member) → Type 0 where
  match_none : Matches [] []
  match_group : {g h : List Member} {gs hs : List (List Member)} → AlikeMembers g h → Matches gs hs → Matches (g ∷ gs) (h ∷ hs)
  match_lone : {x : Member} {gs hs : List (List Member)} → Matches gs hs → Matches ((x ∷ []) ∷ gs) hs

lone_race : (p : ℕ) (x : Member) → race_from p [] (x ∷ []) ≡ none
unfolding race_from race_at earliest
lone_race p x = by (eqb x.place p)
  where
    by : (b : Bool) → first_race (elim b [ true ↦ none | false ↦ none ]) none ≡ none
    by true = refl
    by false = refl

pub matched_races : (p : ℕ) (gs hs : List (List Member)) → Matches gs hs → AlikeRaces (race_among p gs) (race_among p hs)
unfolding race_among
matched_races p gs hs match_none = tt
matched_races p gs hs (match_group {g} {h} {gs = xs} {hs = ys} a m) =
    alike_first (race_from p [] g) (race_among p xs) (race_from p [] h) (race_among p ys) (alike_from p [] [] g h tt a) (matched_races p xs ys m)
matched_races p gs hs (match_lone {x} {gs = xs} m) =
    subst (λ (o : Option Race). AlikeRaces (first_race o (race_among p xs)) (race_among p hs)) (sym (lone_race p x)) (matched_races p xs hs m)

-- carriers in conflict
conflict_alike : (e l f k : Sets) → AlikeSets e f → AlikeSets l k → (c : ℕ) → conflict e l c ≡ conflict f k c
unfolding conflict
conflict_alike e l f k a b c =
    ap₂ ◌||◌ (ap₂ ◌&&◌ (a.writes.same c) (touches l k b)) (ap₂ ◌&&◌ (b.writes.same c) (touches e f a))
  where
    touches : (s t : Sets) → AlikeSets s t → member c (s.reads ++ s.writes) ≡ member c (t.reads ++ t.writes)
    touches s t x = member_append c s.reads s.writes ∙ (ap₂ ◌||◌ (x.reads.same c) (x.writes.same c) ∙ sym (member_append c t.reads t.writes))

first_alike : (e l f k : Sets) → AlikeSets e f → AlikeSets l k → (c : ℕ) (ds : Table) → first_conflict e l c ds ≡ first_conflict f k c ds
unfolding first_conflict
first_alike e l f k a b c [] = refl
first_alike e l f k a b c (d ∷ ds) =
    ap₂ (λ (x : Bool) (o : Option Carrier). elim x as (λ y. Option Carrier) [ true ↦ some (record { number = c; place = d.name.place }) | false ↦ o ])
    (conflict_alike e l f k a b c) (first_alike e l f k a b (suc c) ds)

writers_alike : (e l f k : Sets) → AlikeSets e f → AlikeSets l k → (c : ℕ) → writers e l c ≡ writers f k c
unfolding writers
writers_alike e l f k a b c = ap₂ writers_by (a.writes.same c) (b.writes.same c)

-- SAME REASON
pub alike_reason : (ds : Table) (o q : Option Race) → AlikeRaces o q → race_reason ds o ≡ race_reason ds q
alike_reason ds none none x = refl
alike_reason ds none (some q) x = absurd x
alike_reason ds (some o) none x = absurd x
alike_reason ds (some o) (some q) x =
    ap (race_on o) (first_alike o.earlier.touches o.later.touches q.earlier.touches q.later.touches x.earlier.touches x.later.touches 0 ds)
    ∙ by (first_conflict q.earlier.touches q.later.touches 0 ds)
  where
    by : (c : Option Carrier) → race_on o c ≡ race_on q c
    by none = refl
    by (some c) =
        ap₂ (λ (i j : ℕ). racing i j c.number c.place (writers o.earlier.touches o.later.touches c.number)) x.earlier.place x.later.place
        ∙ ap (racing q.earlier.place q.later.place c.number c.place)
        (writers_alike o.earlier.touches o.later.touches q.earlier.touches q.later.touches x.earlier.touches x.later.touches c.number)
