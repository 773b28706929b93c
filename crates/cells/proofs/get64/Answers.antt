-- `cells::get64` meets its contract: the sum of the eight bytes is `le_at` at 8, unfolded.
-- Assumes nothing.
use native.Mathlib.Omega.{arith}
use native.Mathlib.Nat.{add_assoc}
use Rattle.cells.specs.Cells.{le_at}
use Rattle.cells.proofs.get64.Goals as goal

pub returns : goal.returns
unfolding le_at
returns c = simp add_assoc (omega arith)
