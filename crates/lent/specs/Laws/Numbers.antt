-- Laws of an answer's numbers.
-- Assumes nothing.
use Rattle.std.specs.Prelude.{ℕ, ◌≡◌, [], ◌∷◌}
use Rattle.std.proofs.Common.{ap}
use Rattle.rules.specs.Positions.{Position}

-- line and column stand last
pub position_stands : (x₀ x₁ x₂ x₃ x₄ x₅ : ℕ) {here there : Position} → here ≡ there
    → x₀ ∷ x₁ ∷ x₂ ∷ x₃ ∷ x₄ ∷ x₅ ∷ here.line ∷ here.column ∷ [] ≡ x₀ ∷ x₁ ∷ x₂ ∷ x₃ ∷ x₄ ∷ x₅ ∷ there.line ∷ there.column ∷ []
position_stands x₀ x₁ x₂ x₃ x₄ x₅ e = ap (λ p. x₀ ∷ x₁ ∷ x₂ ∷ x₃ ∷ x₄ ∷ x₅ ∷ p.line ∷ p.column ∷ []) e
