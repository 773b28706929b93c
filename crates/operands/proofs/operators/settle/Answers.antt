-- `operands::operators::settle` meets its contract: a turn settles the last operator that waits.
-- Assumes nothing.
use native.Mathlib.Omega.{arith}
use mathlib.Core.Path.{refl}
use Rattle.operands.specs.Laws.Settling.{settling, settled_none, settled_stopped, settle_operands, settle_lengths, settled_turn}
use Rattle.operands.proofs.operators.settle.Goals as goal

pub loop-top-init : goal.loop-top-init
loop-top-init c = λ v. settling v

pub bounds-pending-top : goal.bounds-pending-top
bounds-pending-top c = omega (arith, (c.loop-top.invariant c.requires).few)

pub offset_bounds-pending-top : goal.offset_bounds-pending-top
offset_bounds-pending-top c = omega (arith, (c.loop-top.invariant c.requires).few)

pub returns-then-tightness_of-tight : goal.returns-then-tightness_of-tight
returns-then-tightness_of-tight c = λ v. settled_stopped (c.loop-top.invariant v) c.loop-top-test.true refl (omega arith) (omega arith)

pub operate-number-requires : goal.operate-number-requires
operate-number-requires c = settle_operands (c.loop-top.invariant c.requires) c.loop-top-test.true refl (omega arith)

pub operate_bits-bits-requires : goal.operate_bits-bits-requires
operate_bits-bits-requires c = settle_lengths (c.loop-top.invariant c.requires) c.loop-top-test.true refl (omega arith)

pub loop-top-preserved : goal.loop-top-preserved
loop-top-preserved c = λ v. settled_turn (c.loop-top.invariant v) c.loop-top-test.true refl (omega arith) c.operate-number.ensures c.operate_bits-bits.ensures

pub returns : goal.returns
returns c = λ v. settled_none (c.loop-top.invariant v) (omega arith)
