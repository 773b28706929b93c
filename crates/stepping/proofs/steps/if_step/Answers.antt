-- `stepping::steps::if_step` meets its contract: the test is worked out, and any bit counts.
-- Assumes nothing.
use Rattle.operands.specs.Laws.Passed.{passed}
use Rattle.stepping.specs.Steps.{StepAnswer}
use Rattle.stepping.specs.Laws.Steps.{if_test, if_faults, if_passes, if_acts}
use Rattle.stepping.proofs.steps.if_step.Goals as goal

pub test-requires : goal.test-requires
test-requires c = if_test c.requires.1.0 c.requires.1.1

pub returns-in_err-tested : goal.returns-in_err-tested
returns-in_err-tested c = λ decls v k. passed (StepAnswer v _) _ c.from_residual.ensures.1 (if_faults v k c.test.ensures c.in_err-tested.was)

pub returns-then-tested-eq0 : goal.returns-then-tested-eq0
returns-then-tested-eq0 c = λ decls v k. if_passes v k c.test.ensures c.in_ok-tested.was c.if-tested-eq0.true c.link_at.ensures

pub returns : goal.returns
returns c = λ decls v k. if_acts v k c.test.ensures c.in_ok-tested.was c.if-tested-eq0.false c.inside_at.ensures
