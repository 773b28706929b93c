-- `storing::transfers::assign` meets its contract: the first field is known, and the others follow it.
-- Assumes nothing.
use Rattle.operands.specs.Laws.Passed.{passed}
use Rattle.storing.specs.Transfers.{AssignTold}
use Rattle.evaluation.specs.Laws.Transfers.{first_at, gather_at}
use Rattle.storing.specs.Laws.Transfers.{assign_room, assign_fault, assign_told}
use Rattle.storing.proofs.transfers.assign.Goals as goal

pub place16_at-place-requires : goal.place16_at-place-requires
place16_at-place-requires c = assign_room c.requires.0

pub access-requires : goal.access-requires
access-requires c = first_at c.requires.0

pub assign_fields-requires : goal.assign_fields-requires
assign_fields-requires c =
    (gather_at c.requires.0 c.access.ensures c.in_ok-first.was, c.requires.1)

pub returns-in_err-first : goal.returns-in_err-first
returns-in_err-first c = λ d.
    passed (AssignTold d _ _ _ _ _) _ c.from_residual.ensures.1 (assign_fault d _ _ _ c.access.ensures c.in_err-first.was c.requires.1.1.1)

pub returns : goal.returns
returns c = λ d.
    assign_told d _ _ _ c.access.ensures c.in_ok-first.was c.place16_at-place.ensures _ _ c.assign_fields.result c.assign_fields.ensures
