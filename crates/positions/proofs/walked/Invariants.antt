-- `positions::walked` meets its contract: the cursor has walked up to its offset.
-- Assumes nothing.
use mathlib.Core.Path.{◌≡◌}
use Rattle.positions.specs.Laws.Cursors.{Walked}
use Rattle.positions.proofs.walked.Given as goal

abbrev pub invariant-loop-byte : goal.invariant-loop-byte
invariant-loop-byte l = Walked l.text l.c × (l.c.offset ≡ l.byte-index)
