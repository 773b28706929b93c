-- `storing::transfers::transfer` meets its contract: the right side first, then the destination.
-- Assumes nothing.
use native.Mathlib.Omega.{arith}
use Rattle.operands.specs.Laws.Passed.{passed}
use Rattle.storing.specs.Transfers.{TransferTold}
use Rattle.evaluation.specs.Laws.Transfers.{transfer_room, equals_small, right_at, assign_at}
use Rattle.storing.specs.Laws.Transfers.{transfer_fault, transfer_told}
use Rattle.storing.proofs.transfers.transfer.Goals as goal

pub inside_at-equals-requires : goal.inside_at-equals-requires
inside_at-equals-requires c = transfer_room c.requires.0

pub overflow_add-equals : goal.overflow_add-equals
overflow_add-equals c = omega (arith, equals_small c.requires.0 c.inside_at-equals.ensures)

pub expression-requires : goal.expression-requires
expression-requires c = right_at c.requires.0 c.inside_at-equals.ensures

pub assign-requires : goal.assign-requires
assign-requires c =
    (assign_at c.requires.0 c.inside_at-equals.ensures, c.requires.1)

pub returns-in_err-right : goal.returns-in_err-right
returns-in_err-right c = λ t.
    passed (TransferTold t _ _ _ _) _ c.from_residual.ensures.1 (transfer_fault t c.inside_at-equals.ensures _ _ c.expression.ensures c.in_err-right.was c.requires.1.1.1)

pub returns : goal.returns
returns c = λ t.
    transfer_told t c.inside_at-equals.ensures _ _ c.expression.ensures c.in_ok-right.was _ _ c.assign.result c.assign.ensures
