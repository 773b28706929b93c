-- The cells of tokens in lent memory, two bytes each: of the token i, its rank at 2 * i and the member around it behind that. There are n tokens.
use Rattle.std.specs.Prelude.{ℕ, ◌+◌, ◌*◌, cond, List, ltb}
use Rattle.cells.specs.Cells.{cell}
use Rattle.telling.specs.Cited.Cells.{Cells}

unfoldable pub cells_in : List ℕ → ℕ → Cells
cells_in bytes n = record {
  up = λ i. cond (ltb i n) (cell 2 bytes (2 * i + 1)) 0;
  rank = λ i. cond (ltb i n) (cell 2 bytes (2 * i)) 0;
}
