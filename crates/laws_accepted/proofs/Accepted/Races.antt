-- A group races with an earlier member only if one of its members does.
use Rattle.std.specs.Prelude.{ℕ, ◌≡◌, refl, Bool, true, false, ◌||◌, List, [], ◌∷◌, ◌++◌, ◌⊎◌, eqb}
use Rattle.std.proofs.Common.{ap₂, inl, inr, eq-eqb}
use Rattle.rules.specs.Whole.Sets.{Sets, union, member, meet, race}
use Rattle.rules.specs.Faults.Whole.{races_any}
use Rattle.laws_orders.proofs.Orders.Tests.{or_neither, or_left, member_left, member_right, member_either, no_meeting}

-- lists with no member in common
abbrev Apart : List ℕ → List ℕ → Type 0
Apart xs ys = (c : ℕ) → member c xs ≡ true → member c ys ≡ true → ⊥

member_first : (x : ℕ) (xs : List ℕ) → member x (x ∷ xs) ≡ true
unfolding member
member_first x xs = or_left (eqb x x) (member x xs) (eq-eqb x x refl)

-- they do not meet
not_met : (xs ys : List ℕ) → Apart xs ys → meet xs ys ≡ false
unfolding meet
not_met [] ys h = refl
not_met (x ∷ xs) ys h = by (member x ys) refl (not_met xs ys (λ c p q. h c (member_right c (x ∷ []) xs p) q))
  where
    by : (b : Bool) → member x ys ≡ b → meet xs ys ≡ false → (b || meet xs ys) ≡ false
    by true e ih = absurd (h x (member_first x xs) e)
    by false e ih = ih

-- a list apart from what two sets read and write is apart from what they do together
apart_union :
    (xs : List ℕ) (s t : Sets) → Apart xs (s.reads ++ s.writes) → Apart xs (t.reads ++ t.writes)
    → Apart xs ((union s t).reads ++ (union s t).writes)
apart_union xs s t p q c m n = by (member_either c (s.reads ++ t.reads) (s.writes ++ t.writes) n)
  where
    read : (member c s.reads ≡ true) ⊎ (member c t.reads ≡ true) → ⊥
    read (inl e) = p c m (member_left c s.reads s.writes e)
    read (inr e) = q c m (member_left c t.reads t.writes e)

    written : (member c s.writes ≡ true) ⊎ (member c t.writes ≡ true) → ⊥
    written (inl e) = p c m (member_right c s.reads s.writes e)
    written (inr e) = q c m (member_right c t.reads t.writes e)

    by : (member c (s.reads ++ t.reads) ≡ true) ⊎ (member c (s.writes ++ t.writes) ≡ true) → ⊥
    by (inl e) = read (member_either c s.reads t.reads e)
    by (inr e) = written (member_either c s.writes t.writes e)

no_race_union : (x s t : Sets) → race x s ≡ false → race x t ≡ false → race x (union s t) ≡ false
unfolding race
no_race_union x s t p q =
    let all = x.reads ++ x.writes in
    let a = or_neither (meet x.writes (s.reads ++ s.writes)) (meet s.writes all) p in
    let b = or_neither (meet x.writes (t.reads ++ t.writes)) (meet t.writes all) q in
    ap₂ ◌||◌
    (not_met x.writes ((union s t).reads ++ (union s t).writes)
    (apart_union x.writes s t (λ c. no_meeting c x.writes (s.reads ++ s.writes) a.0) (λ c. no_meeting c x.writes (t.reads ++ t.writes) b.0)))
    (not_met (s.writes ++ t.writes) all (λ c m n. by c n a.1 b.1 (member_either c s.writes t.writes m)))
  where
    by :
        (c : ℕ) → member c (x.reads ++ x.writes) ≡ true → meet s.writes (x.reads ++ x.writes) ≡ false
        → meet t.writes (x.reads ++ x.writes) ≡ false → (member c s.writes ≡ true) ⊎ (member c t.writes ≡ true) → ⊥
    by c n p q (inl e) = no_meeting c s.writes (x.reads ++ x.writes) p e n
    by c n p q (inr e) = no_meeting c t.writes (x.reads ++ x.writes) q e n

pub no_races_union : (s t : Sets) (before : List Sets) → races_any s before ≡ false → races_any t before ≡ false → races_any (union s t) before ≡ false
unfolding races_any
no_races_union s t [] p q = refl
no_races_union s t (x ∷ before) p q =
    let a = or_neither (race x s) (races_any s before) p in
    let b = or_neither (race x t) (races_any t before) q in
    ap₂ ◌||◌ (no_race_union x s t a.0 b.0) (no_races_union s t before a.1 b.1)
