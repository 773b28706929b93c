-- `evaluation::transfers::transfer` meets its contract: the right side first, then the destination.
-- Assumes nothing.
use borrow.Author.Rules.{rules}
use native.Mathlib.Omega.{arith}
use Rattle.operands.specs.Laws.Passed.{passed}
use Rattle.evaluation.specs.Transfers.{TransferAnswer}
use Rattle.evaluation.specs.Laws.Transfers.{transfer_room, equals_small, right_at, transfer_faults, assign_at, transfer_assigned}
use Rattle.evaluation.proofs.transfers.transfer.Goals as goal

pub inside_at-equals-requires : goal.inside_at-equals-requires
inside_at-equals-requires c = transfer_room c.requires.0

pub overflow_add-equals : goal.overflow_add-equals
overflow_add-equals c = omega (arith, equals_small c.requires.0 c.inside_at-equals.ensures)

pub expression-requires : goal.expression-requires
expression-requires c = search right_at

pub assign-requires : goal.assign-requires
assign-requires c = search (rules, assign_at)

pub returns-in_err-right : goal.returns-in_err-right
returns-in_err-right c = λ t. passed (TransferAnswer t _) _ c.from_residual.ensures.1 (transfer_faults t c.inside_at-equals.ensures c.expression.ensures c.in_err-right.was)

pub returns : goal.returns
returns c = λ t. transfer_assigned t c.inside_at-equals.ensures c.expression.ensures c.in_ok-right.was _ _ c.assign.ensures
