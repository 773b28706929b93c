-- The first carrier that two members share in conflict, as it is found.
use Rattle.std.specs.Prelude.{ℕ, ◌<◌, ◌≤◌, ◌≡◌, true, false, List}
use Rattle.rules.specs.Whole.Sets.{Sets}
use Rattle.whole.specs.GroupKeys.{Holding}
use Rattle.rules.specs.Reasons.{conflict}

-- none of the carriers before r, and r itself if it is below m
pub record Shared (r₁ w₁ r₂ w₂ : List ℕ) (m r : ℕ) : Type 0 where
  pub within : r ≤ m
  pub before : (a b : Sets) → Holding r₁ w₁ a → Holding r₂ w₂ b → (i : ℕ) → i < r → conflict a b i ≡ false
  pub one : r < m → (a b : Sets) → Holding r₁ w₁ a → Holding r₂ w₂ b → conflict a b r ≡ true
