-- `tracing::acts::transfer_act` meets its contract: the transfer is made and told, or nothing is.
-- Assumes nothing.
use Rattle.operands.specs.Laws.Passed.{passed}
use Rattle.tracing.specs.Acts.{ActTold}
use Rattle.stepping.specs.Laws.Steps.{move_at}
use Rattle.tracing.specs.Laws.Acts.{fault_told, stored_told}
use Rattle.tracing.proofs.acts.transfer_act.Goals as goal

pub transfer-requires : goal.transfer-requires
transfer-requires c = (move_at c.requires.0.1.0 c.requires.0.1.1.0 c.requires.0.1.1.1, c.requires.1)

pub returns-in_err-transfer : goal.returns-in_err-transfer
returns-in_err-transfer c = λ decls v k o. passed (ActTold v _ _ _ _) _ c.from_residual.ensures.1 (fault_told v k o c.in_err-transfer.was c.transfer.ensures)

pub returns : goal.returns
returns c = λ decls v k o. stored_told v k o c.in_ok-transfer.was c.link_at.ensures c.transfer.ensures
