-- `cells::get16` meets its contract: the sum of the two bytes is `le_at` at 2, unfolded.
-- Assumes nothing.
use native.Mathlib.Omega.{arith}
use Rattle.cells.specs.Cells.{le_at}
use Rattle.cells.proofs.get16.Goals as goal

pub returns : goal.returns
unfolding le_at
returns c = omega arith
