-- `blocks::bytes::copy` meets its contract: the bytes passed are copied, and the others are as they were.
-- Assumes nothing.
use Rattle.blocks.specs.Laws.Loops.{Copied}
use Rattle.blocks.proofs.bytes.copy.Given as goal

abbrev pub invariant-loop-i : goal.invariant-loop-i
invariant-loop-i l = Copied l.initial.to l.at l.from l.to l.i
