-- What cannot be, tests joined by "or", and lists of carriers as sets.
use Rattle.std.specs.Prelude.{ℕ, ◌≡◌, refl, Bool, true, false, ◌||◌, List, [], ◌∷◌, ◌++◌, ◌⊎◌, eqb}
use Rattle.std.proofs.Common.{sym, ◌∙◌, ap, inl, inr, arith, eqb-true}
use Rattle.std.proofs.Math.Bool.{or_assoc, or-true}
use Rattle.std.proofs.lemmas.Bool.{false≢true}
use Rattle.rules.specs.Whole.Sets.{member, meet}

pub impossible : {A : Type 0} → ◌≡◌ {A = ℕ} 0 1 → A
impossible e = absurd (omega arith)

pub or_neither : (a b : Bool) → (a || b) ≡ false → (a ≡ false) × (b ≡ false)
or_neither true b e = absurd (false≢true (sym e))
or_neither false b e = (refl, e)

pub or_either : (a b : Bool) → (a || b) ≡ true → (a ≡ true) ⊎ (b ≡ true)
or_either true b e = inl refl
or_either false b e = inr e

pub or_left : (a b : Bool) → a ≡ true → (a || b) ≡ true
or_left a b e = ap (λ x. x || b) e

pub or_right : (a b : Bool) → b ≡ true → (a || b) ≡ true
or_right a b e = ap (λ x. a || x) e ∙ or-true a

pub member_append : (c : ℕ) (xs ys : List ℕ) → member c (xs ++ ys) ≡ (member c xs || member c ys)
unfolding member
member_append c [] ys = refl
member_append c (x ∷ xs) ys = ap (λ b. eqb c x || b) (member_append c xs ys) ∙ sym (or_assoc (eqb c x) (member c xs) (member c ys))

pub member_left : (c : ℕ) (xs ys : List ℕ) → member c xs ≡ true → member c (xs ++ ys) ≡ true
member_left c xs ys h = member_append c xs ys ∙ or_left (member c xs) (member c ys) h

pub member_right : (c : ℕ) (xs ys : List ℕ) → member c ys ≡ true → member c (xs ++ ys) ≡ true
member_right c xs ys h = member_append c xs ys ∙ or_right (member c xs) (member c ys) h

pub member_either : (c : ℕ) (xs ys : List ℕ) → member c (xs ++ ys) ≡ true → (member c xs ≡ true) ⊎ (member c ys ≡ true)
member_either c xs ys h = or_either (member c xs) (member c ys) (sym (member_append c xs ys) ∙ h)

-- lists that do not meet have no member in common
pub no_meeting : (c : ℕ) (xs ys : List ℕ) → meet xs ys ≡ false → member c xs ≡ true → member c ys ≡ true → ⊥
unfolding member meet
no_meeting c [] ys h p q = false≢true p
no_meeting c (x ∷ xs) ys h p q =
    let n : (member x ys ≡ false) × (meet xs ys ≡ false) = or_neither (member x ys) (meet xs ys) h in
    by n.0 (no_meeting c xs ys n.1) (or_either (eqb c x) (member c xs) p)
  where
    by : member x ys ≡ false → (member c xs ≡ true → member c ys ≡ true → ⊥) → (eqb c x ≡ true) ⊎ (member c xs ≡ true) → ⊥
    by n ih (inl e) = false≢true (sym n ∙ (ap (λ z. member z ys) (sym (eqb-true c x e)) ∙ q))
    by n ih (inr e) = ih e q
