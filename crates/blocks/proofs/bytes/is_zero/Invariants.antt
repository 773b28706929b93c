-- `blocks::bytes::is_zero` meets its contract: the bytes passed are 0, so the others decide.
-- Assumes nothing.
use Rattle.blocks.specs.Laws.Loops.{Zeros}
use Rattle.blocks.proofs.bytes.is_zero.Given as goal

abbrev pub invariant-loop-byte : goal.invariant-loop-byte
invariant-loop-byte l = Zeros l.bytes l.byte-index
