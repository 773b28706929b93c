-- `operands::operators::settle` meets its contract: a turn settles the last operator that waits.
-- Assumes nothing.
use Rattle.operands.specs.Settling.{SettleAt}
use Rattle.operands.specs.Laws.Settling.{Settling}
use Rattle.operands.proofs.operators.settle.Given as goal

abbrev pub invariant-loop-top : goal.invariant-loop-top
invariant-loop-top l = (v : SettleAt l.pending l.fn.from.count l.fn.from.number l.fn.from.bits l.tight) → Settling v l.top l.number l.bits
