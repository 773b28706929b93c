-- `passing::climbing::depth_of` meets its contract: the members passed are counted.
-- Assumes nothing.
use Rattle.members.specs.Cells.{cells_in}
use Rattle.passing.specs.Laws.Counting.{Counted}
use Rattle.passing.proofs.climbing.depth_of.Given as goal

abbrev pub invariant-loop-depth : goal.invariant-loop-depth
invariant-loop-depth l = Counted (cells_in l.cells l.n) l.x l.at l.depth
