-- `positions::is_elsewhere` meets its contract: the numbers are those of the rules.
-- Assumes nothing.
use Rattle.std.specs.Prelude.{ℕ, ◌≡◌, refl, ◌||◌, List, [], ◌∷◌}
use Rattle.std.specs.List.{list_any}
use Rattle.std.proofs.Common.{sym, ap₂, ◌∙◌, eq-eqb, ne_eqb}
use Rattle.std.proofs.Math.Dec.{eqb}
use Rattle.std.proofs.Math.Decide.{ℕ_discrete}
use Rattle.rules.specs.Whole.Sets.{member}
use Rattle.positions.proofs.is_elsewhere.Goals as goal

swapped : (x y : ℕ) → eqb x y ≡ eqb y x
swapped x y = elim (ℕ_discrete x y) [ yes e ↦ eq-eqb x y e ∙ sym (eq-eqb y x (sym e)) | no n ↦ ne_eqb x y n ∙ sym (ne_eqb y x (λ e. n (sym e))) ]

any_member : (n : ℕ) (xs : List ℕ) → list_any (λ x. eqb x n) xs ≡ member n xs
unfolding member
any_member n [] = refl
any_member n (x ∷ xs) = ap₂ ◌||◌ (swapped x n) (any_member n xs)

pub returns : goal.returns
returns c = c.contains.ensures.value ∙ any_member c.args.number _
