-- `stepping::steps::transfer_step` meets its contract: the transfer is made, or nothing is.
-- Assumes nothing.
use Rattle.operands.specs.Laws.Passed.{passed}
use Rattle.stepping.specs.Steps.{StepAnswer}
use Rattle.stepping.specs.Laws.Steps.{move_at, move_faults, move_goes}
use Rattle.stepping.proofs.steps.transfer_step.Goals as goal

pub transfer-requires : goal.transfer-requires
transfer-requires c = (move_at c.requires.1.0 c.requires.1.1.0 c.requires.1.1.1.0, c.requires.1.1.1.1)

pub returns-in_err-transfer : goal.returns-in_err-transfer
returns-in_err-transfer c = λ decls v k o. passed (StepAnswer v _) _ c.from_residual.ensures.1 (move_faults v k o c.transfer.ensures c.in_err-transfer.was)

pub returns : goal.returns
returns c = λ decls v k o. move_goes v k o c.transfer.ensures c.in_ok-transfer.was c.link_at.ensures
