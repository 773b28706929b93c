-- `evaluation::transfers::gather` meets its contract: a turn adds the next field.
-- Assumes nothing.
use native.Mathlib.Omega.{arith}
use mathlib.Core.Path.{refl, ◌∙◌}
use Prim.Native.Nat.{◌-◌}
use Rattle.operands.specs.Laws.Passed.{passed}
use Rattle.evaluation.specs.Gathering.{GatherAnswer}
use Rattle.evaluation.specs.Laws.Gathering.{first_packable, gathering, gathered, gather_small, next_at, gather_faults, next_packable, gather_slot, gather_sum, gather_falls, gather_turn}
use Rattle.evaluation.proofs.transfers.gather.Goals as goal

pub packed-requires : goal.packed-requires
packed-requires c = first_packable c.requires.0

pub loop-at-init : goal.loop-at-init
loop-at-init c = ((λ v. gathering v _ c.requires.1 c.packed.type_inv c.packed.ensures c.put64.ensures), refl)

pub overflow_add-at : goal.overflow_add-at
overflow_add-at c = omega (arith, gather_small c.loop-at.invariant.0 c.requires.0)

pub access-requires : goal.access-requires
access-requires c = next_at c.loop-at.invariant.0 c.requires.0 c.loop-at-test.true

pub returns-in_err-more : goal.returns-in_err-more
returns-in_err-more c = λ v.
    passed (GatherAnswer v _) _ c.from_residual.ensures.1 (gather_faults c.loop-at.invariant.0 v c.loop-at-test.true c.access.ensures c.in_err-more.was)

pub packed-requires-in-loop-at : goal.packed-requires-in-loop-at
packed-requires-in-loop-at c = next_packable c.loop-at.invariant.0 c.requires.0 c.loop-at-test.true c.access.ensures c.in_ok-more.was

pub put64-requires-in-loop-at : goal.put64-requires-in-loop-at
put64-requires-in-loop-at c = omega (arith, gather_slot c.loop-at.invariant.0 c.requires.0 c.loop-at-test.true c.access.ensures c.in_ok-more.was, c.loop-at.invariant.1, c.put64.auto.b, c.requires.1)

pub overflow_add-count : goal.overflow_add-count
overflow_add-count c = omega (arith, gather_slot c.loop-at.invariant.0 c.requires.0 c.loop-at-test.true c.access.ensures c.in_ok-more.was)

pub overflow_add-bits : goal.overflow_add-bits
overflow_add-bits c = omega (arith, gather_sum c.loop-at.invariant.0 c.requires.0 c.loop-at-test.true c.access.ensures c.in_ok-more.was)

pub loop-at-smaller : goal.loop-at-smaller
loop-at-smaller c = gather_falls c.loop-at.invariant.0 c.requires.0 c.loop-at-test.true c.access.ensures c.in_ok-more.was

pub loop-at-preserved : goal.loop-at-preserved
loop-at-preserved c = (
  (λ v. gather_turn c.loop-at.invariant.0 v c.loop-at-test.true c.access.ensures c.in_ok-more.was (omega (arith, c.loop-at.invariant.1, c.put64.auto.b, c.requires.1)) c.packed-in-loop-at.type_inv c.packed-in-loop-at.ensures c.put64-in-loop-at.ensures),
  c.put64-in-loop-at.auto.b ∙ c.loop-at.invariant.1,
)

pub returns : goal.returns
returns c = λ v. gathered c.loop-at.invariant.0 v c.loop-at-test.false
