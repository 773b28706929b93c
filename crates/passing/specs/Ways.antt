-- What control passes, by the cells of n tokens in lent memory: from one instruction to another, into a body to its first instruction, and out of a body behind an
-- instruction.
use Rattle.std.specs.Prelude.{ℕ, List, [], map}
use Rattle.telling.specs.Cited.Passing.{Grouping, Passing, closed, passage}
use Rattle.telling.specs.Cited.Cells.{cell_grouping}
use Rattle.members.specs.Cells.{cells_in}

module _ (bytes : List ℕ) (n : ℕ) where
  abbrev pub grouping_in : Grouping
  grouping_in = cell_grouping (cells_in bytes n)

  abbrev pub between : ℕ → ℕ → List Passing
  between from to = passage grouping_in (grouping_in.around from) (grouping_in.around to)

  abbrev pub into : ℕ → List Passing
  into to = passage grouping_in [] (grouping_in.around to)

  abbrev pub out_of : ℕ → List Passing
  out_of from = map closed (grouping_in.around from)
