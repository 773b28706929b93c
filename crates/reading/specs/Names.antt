-- The storage carrier under a name, as the code answers it.
use Rattle.std.specs.Prelude.{ℕ, ◌<◌, ◌≤◌, ◌≡◌, List, [], ◌∷◌}

-- the carriers of a name are one number, or none from 256 on
pub record Owned (xs : List ℕ) (r : ℕ) : Type 0 where
  pub one : r < 256 → xs ≡ r ∷ []
  pub nothing : 256 ≤ r → xs ≡ []
