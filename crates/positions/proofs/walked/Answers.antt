-- `positions::walked` meets its contract: the cursor has walked up to its offset.
-- Assumes nothing.
use mathlib.Core.Path.{ap}
use native.Mathlib.Omega.{arith}
use Rattle.positions.specs.Laws.Cursors.{walk_starts, front_near, front_goes_on, front_over}
use Rattle.positions.proofs.walked.Goals as goal

pub loop-byte-init : goal.loop-byte-init
loop-byte-init c = (walk_starts _ c.start-c.ensures, omega (arith, ap (λ z. z.offset) c.start-c.ensures))

pub advanced-c-requires : goal.advanced-c-requires
advanced-c-requires c = front_near c.requires.0 c.loop-byte.invariant c.requires.1 (omega arith)

pub loop-byte-preserved : goal.loop-byte-preserved
loop-byte-preserved c = front_goes_on c.requires.0 c.loop-byte.invariant (omega arith) c.advanced-c.ensures

pub returns : goal.returns
returns c = front_over c.requires.0 c.loop-byte.invariant (omega arith) (omega arith)
