-- `stepping::steps::decode_step` meets its contract: the test is worked out, and an alternative chosen.
-- Assumes nothing.
use native.Mathlib.Omega.{arith}
use Rattle.operands.specs.Laws.Passed.{passed}
use Rattle.stepping.specs.Steps.{StepAnswer}
use Rattle.stepping.specs.Laws.Choice.{choice_room}
use Rattle.stepping.specs.Laws.Steps.{decode_test, decode_choice, decode_faults, decode_none, decode_goes}
use Rattle.stepping.proofs.steps.decode_step.Goals as goal

pub test-requires : goal.test-requires
test-requires c = decode_test c.requires.1.0 c.requires.1.1

pub returns-in_err-tested : goal.returns-in_err-tested
returns-in_err-tested c = λ decls v k. passed (StepAnswer v _) _ c.from_residual.ensures.1 (decode_faults v k c.test.ensures c.in_err-tested.was)

pub overflow_add-tested : goal.overflow_add-tested
overflow_add-tested c = omega (arith, choice_room (decode_choice c.requires.1.0 c.requires.1.1 c.test.ensures c.in_ok-tested.was))

pub choose-requires : goal.choose-requires
choose-requires c = decode_choice c.requires.1.0 c.requires.1.1 c.test.ensures c.in_ok-tested.was

pub returns-in-Some : goal.returns-in-Some
returns-in-Some c = λ decls v k. decode_goes v k c.test.ensures c.in_ok-tested.was c.choose.ensures c.in-Some.is

pub returns-in-None : goal.returns-in-None
returns-in-None c = λ decls v k. decode_none v k c.test.ensures c.in_ok-tested.was c.choose.ensures c.in-None.is c.place16_at.ensures
