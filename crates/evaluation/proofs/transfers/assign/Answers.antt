-- `evaluation::transfers::assign` meets its contract: a single access is stored to at once.
-- Assumes nothing.
use borrow.Author.Rules.{rules}
use Rattle.operands.specs.Laws.Passed.{passed}
use Rattle.evaluation.specs.Transfers.{AssignAnswer}
use Rattle.evaluation.specs.Laws.Transfers.{first_at, assign_faults, assign_fits, assign_single, gather_at, assign_joined}
use Rattle.evaluation.proofs.transfers.assign.Goals as goal

pub access-requires : goal.access-requires
access-requires c = search (rules, first_at)

pub store-requires : goal.store-requires
store-requires c = assign_fits c.requires.0 c.access.ensures c.in_ok-first.was

pub returns-then-first-end : goal.returns-then-first-end
returns-then-first-end c = λ d. assign_single d c.access.ensures c.in_ok-first.was _ c.if-first-end.true c.store.ensures

pub assign_joined-requires : goal.assign_joined-requires
assign_joined-requires c = (gather_at c.requires.0 c.access.ensures c.in_ok-first.was, c.requires.1)

pub returns-in_err-first : goal.returns-in_err-first
returns-in_err-first c = λ d. passed (AssignAnswer d _ _) _ c.from_residual.ensures.1 (assign_faults d _ c.access.ensures c.in_err-first.was)

pub returns : goal.returns
returns c = λ d. assign_joined d c.access.ensures c.in_ok-first.was _ _ _ c.assign_joined.ensures
