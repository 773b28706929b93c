-- Laws of the numbers of a reason.
use Rattle.std.specs.Prelude.{ℕ, zero, suc, ◌+◌, ◌-◌, ◌<◌, ◌≡◌, refl, List, [], ◌∷◌, ◌++◌, length, set}
use Rattle.std.proofs.Common.{ap, ap₂, ◌∙◌, arith, length-append}
use Rattle.rules.specs.Reasons.{chained}
use Rattle.rules.specs.Calls.Why.{padded, reason_numbers}

-- one more number stands behind the others
padded_set : (k : ℕ) (xs : List ℕ) (p : ℕ) → length xs < k → set (padded k xs) (length xs) p ≡ padded k (xs ++ (p ∷ []))
unfolding padded
padded_set zero xs p h = absurd (omega arith)
padded_set (suc k) [] p h = refl
padded_set (suc k) (x ∷ xs) p h = ap (λ (l : List ℕ). x ∷ l) (padded_set k xs p (omega arith))

-- one more body is listed
pub listed_more : (numbers places : List ℕ) (at p : ℕ) → numbers ≡ reason_numbers (chained places) → 2 + length places ≡ at → at < 24
    → set (set numbers at p) 1 (at - 1) ≡ reason_numbers (chained (places ++ (p ∷ [])))
unfolding reason_numbers padded
listed_more numbers places at p e a h =
    let n = length places in
    let i : at ≡ suc (suc n) = omega arith in
    let c : at - 1 ≡ length (places ++ (p ∷ [])) = omega (arith, length-append places (p ∷ [])) in
    ap₂ (λ (l : List ℕ) (j : ℕ). set (set l j p) 1 (at - 1)) e i
    ∙ (ap (λ (l : List ℕ). 2 ∷ (at - 1) ∷ l) (padded_set 22 places p (omega arith))
    ∙ ap (λ (j : ℕ). 2 ∷ j ∷ padded 22 (places ++ (p ∷ []))) c)
