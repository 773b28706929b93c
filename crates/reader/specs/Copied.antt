-- Cells of one buffer that are those of another.
use Rattle.std.specs.Prelude.{ℕ, ◌<◌, ◌≡◌, List}
use Rattle.cells.specs.Cells.{cell}

-- the first k
pub record Copied (to from : List ℕ) (k : ℕ) : Type 0 where
  pub same : (j : ℕ) → j < k → cell 2 to j ≡ cell 2 from j
