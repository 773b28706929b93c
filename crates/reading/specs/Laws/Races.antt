-- Laws of races, by what a member's events touch; and against the union of the earlier members.
use Rattle.std.specs.Prelude.{ℕ, ◌≡◌, Bool, true, false, eqb}
use Rattle.std.proofs.Math.Path.{refl, ap₂}
use Rattle.std.proofs.Common.{sym, ap, ◌∙◌, eqb-true, eq-eqb, ne_eqb}
use Rattle.std.proofs.Math.Bool.{◌||◌, or_comm, or-true}
use mathlib.Core.List.{List, [], ◌∷◌, ◌++◌}
use Rattle.std.proofs.lemmas.Bool.{eqb-false}
use Rattle.rules.specs.Declarations.{Word, Table}
use Rattle.rules.specs.Whole.Sets.{Sets, sets, union, member, meet, race}
use Rattle.rules.specs.Faults.Whole.{races_any}
use Rattle.laws_orders.proofs.Orders.Tests.{member_append}
use Rattle.reading.specs.Events.{Event, reads, writes, activates, halts}
use Rattle.reading.specs.Touches.{any_event, read_hit, write_hit}
use Rattle.reading.specs.Races.{event_sets, touch}

module _ (ds : Table) (f : Word → Sets) where
  event_reads : (c : ℕ) (e : Event) → member c (event_sets ds f e).reads ≡ read_hit ds f c e
  unfolding member
  event_reads c (reads w) = refl
  event_reads c (writes w) = refl
  event_reads c (activates w) = refl
  event_reads c halts = refl

  event_writes : (c : ℕ) (e : Event) → member c (event_sets ds f e).writes ≡ write_hit ds f c e
  unfolding member
  event_writes c (reads w) = refl
  event_writes c (writes w) = refl
  event_writes c (activates w) = refl
  event_writes c halts = refl

  pub touch_reads : (c : ℕ) (es : List Event) → member c (touch ds f es).reads ≡ any_event (read_hit ds f c) es
  unfolding touch any_event member
  touch_reads c [] = refl
  touch_reads c (e ∷ es) = member_append c (event_sets ds f e).reads (touch ds f es).reads ∙ ap₂ ◌||◌ (event_reads c e) (touch_reads c es)

  pub touch_writes : (c : ℕ) (es : List Event) → member c (touch ds f es).writes ≡ any_event (write_hit ds f c) es
  unfolding touch any_event member
  touch_writes c [] = refl
  touch_writes c (e ∷ es) = member_append c (event_sets ds f e).writes (touch ds f es).writes ∙ ap₂ ◌||◌ (event_writes c e) (touch_writes c es)

-- two lists with the same members
pub record Alike (xs ys : List ℕ) : Type 0 where
  pub same : (c : ℕ) → member c xs ≡ member c ys

pub record AlikeSets (s t : Sets) : Type 0 where
  pub reads : Alike s.reads t.reads
  pub writes : Alike s.writes t.writes

meet_right : (xs ys zs : List ℕ) → Alike ys zs → meet xs ys ≡ meet xs zs
unfolding meet
meet_right [] ys zs a = refl
meet_right (x ∷ xs) ys zs a = ap₂ ◌||◌ (a.same x) (meet_right xs ys zs a)

meet_none : (xs : List ℕ) → meet xs [] ≡ false
unfolding meet member
meet_none [] = refl
meet_none (x ∷ xs) = meet_none xs

or_exchange : (a b c d : Bool) → ((a || b) || (c || d)) ≡ ((a || c) || (b || d))
or_exchange true b c d = refl
or_exchange false b true d = or-true b
or_exchange false b false d = refl

eqb_sym : (x y : ℕ) → eqb x y ≡ eqb y x
eqb_sym x y = by (eqb x y) refl
  where
    by : (b : Bool) → eqb x y ≡ b → b ≡ eqb y x
    by true e = sym (eq-eqb y x (sym (eqb-true x y e)))
    by false e = sym (ne_eqb y x (λ h. eqb-false x y e (sym h)))

meet_cons : (y : ℕ) (xs ys : List ℕ) → meet xs (y ∷ ys) ≡ (member y xs || meet xs ys)
unfolding meet member
meet_cons y [] ys = refl
meet_cons y (x ∷ xs) ys =
    ap₂ ◌||◌ (ap (λ b. b || member x ys) (eqb_sym x y)) (meet_cons y xs ys) ∙ or_exchange (eqb y x) (member x ys) (member y xs) (meet xs ys)

meet_sym : (xs ys : List ℕ) → meet xs ys ≡ meet ys xs
unfolding meet
meet_sym xs [] = meet_none xs
meet_sym xs (y ∷ ys) = meet_cons y xs ys ∙ ap (λ b. member y xs || b) (meet_sym xs ys)

meet_left : (xs ys zs : List ℕ) → Alike xs ys → meet xs zs ≡ meet ys zs
meet_left xs ys zs a = meet_sym xs zs ∙ (meet_right zs xs ys a ∙ meet_sym zs ys)

meet_both : (xs ys zs : List ℕ) → meet xs (ys ++ zs) ≡ (meet xs ys || meet xs zs)
unfolding meet
meet_both [] ys zs = refl
meet_both (x ∷ xs) ys zs =
    ap₂ ◌||◌ (member_append x ys zs) (meet_both xs ys zs) ∙ or_exchange (member x ys) (member x zs) (meet xs ys) (meet xs zs)

either_meets : (xs ys zs : List ℕ) → meet (xs ++ ys) zs ≡ (meet xs zs || meet ys zs)
either_meets xs ys zs = meet_sym (xs ++ ys) zs ∙ (meet_both zs xs ys ∙ ap₂ ◌||◌ (meet_sym zs xs) (meet_sym zs ys))

alike_append : (xs ys zs ws : List ℕ) → Alike xs ys → Alike zs ws → Alike (xs ++ zs) (ys ++ ws)
alike_append xs ys zs ws a b =
    record { same = λ c. member_append c xs zs ∙ (ap₂ ◌||◌ (a.same c) (b.same c) ∙ sym (member_append c ys ws)) }

pub race_alike : (u s t : Sets) → AlikeSets s t → race u s ≡ race u t
unfolding race
race_alike u s t a =
    ap₂ ◌||◌ (meet_right u.writes (s.reads ++ s.writes) (t.reads ++ t.writes) (alike_append _ _ _ _ a.reads a.writes))
    (meet_left s.writes t.writes (u.reads ++ u.writes) a.writes)

race_sym : (s t : Sets) → race s t ≡ race t s
unfolding race
race_sym s t = or_comm (meet s.writes (t.reads ++ t.writes)) (meet t.writes (s.reads ++ s.writes))

-- a member races with one of two exactly where it races with their union
race_either : (s t u : Sets) → race (union s t) u ≡ (race s u || race t u)
unfolding race
race_either s t u =
    ap₂ ◌||◌ (either_meets s.writes t.writes (u.reads ++ u.writes))
    (meet_both u.writes (s.reads ++ t.reads) (s.writes ++ t.writes)
    ∙ (ap₂ ◌||◌ (meet_both u.writes s.reads t.reads) (meet_both u.writes s.writes t.writes)
    ∙ (or_exchange (meet u.writes s.reads) (meet u.writes t.reads) (meet u.writes s.writes) (meet u.writes t.writes)
    ∙ ap₂ ◌||◌ (sym (meet_both u.writes s.reads s.writes)) (sym (meet_both u.writes t.reads t.writes)))))
    ∙ or_exchange (meet s.writes (u.reads ++ u.writes)) (meet t.writes (u.reads ++ u.writes))
    (meet u.writes (s.reads ++ s.writes)) (meet u.writes (t.reads ++ t.writes))

-- sets that stand for those of several members
pub record Covers (u : Sets) (before : List Sets) : Type 0 where
  pub races : (s : Sets) → race u s ≡ races_any s before

pub covers_none : Covers (sets [] []) []
unfolding race races_any meet
covers_none = record { races = λ s. meet_none s.writes }

pub covers_more : (u t v : Sets) (before : List Sets) → Covers u before → AlikeSets v t → Covers (union u v) (t ∷ before)
unfolding races_any
covers_more u t v before c a =
    record {
      races = λ s.
          race_either u v s ∙ (or_comm (race u s) (race v s)
          ∙ ap₂ ◌||◌ (race_sym v s ∙ (race_alike s v t a ∙ race_sym s t)) (c.races s));
    }
