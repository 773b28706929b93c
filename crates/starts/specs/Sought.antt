-- Words of one length in a carrier buffer: the first that has a bit above it.
use Rattle.std.specs.Prelude.{ℕ, ◌^◌, ◌<◌, ◌≤◌, List}
use Rattle.cells.specs.Cells.{cell}

-- of the words from `at` to before `end`, r is the first with a bit above its lowest `bits`; `end` where none has
pub record Sought (carriers : List ℕ) (at end bits r : ℕ) : Type 0 where
  pub least : at ≤ r
  pub most : r ≤ end
  pub fit : (i : ℕ) → at ≤ i → i < r → cell 8 carriers i < 2 ^ bits
  pub long : r < end → 2 ^ bits ≤ cell 8 carriers r
