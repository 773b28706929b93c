-- `storing::transfers::assign_fields` meets its contract: all fields are gathered before the first store.
-- Assumes nothing.
use native.Mathlib.Omega.{arith}
use Rattle.operands.specs.Laws.Passed.{passed}
use Rattle.storing.specs.Transfers.{FieldsTold}
use Rattle.evaluation.specs.Laws.Transfers.{stores_room, stores_at}
use Rattle.storing.specs.Laws.Transfers.{fields_fault, fields_stored}
use Rattle.storing.proofs.transfers.assign_fields.Goals as goal

pub store_all-requires : goal.store_all-requires
store_all-requires c =
    (stores_at c.requires.0 _ c.gather.ensures c.in_ok-gathered.was, (stores_room c.requires.0 _ c.gather.ensures c.in_ok-gathered.was (omega (arith, c.gather.auto.fields, c.requires.1.0)), c.requires.1.1))

pub returns-in_err-gathered : goal.returns-in_err-gathered
returns-in_err-gathered c = λ g.
    passed (FieldsTold g _ _ _ _ _ _) _ c.from_residual.ensures.1 (fields_fault g _ _ _ _ _ c.gather.ensures c.in_err-gathered.was c.requires.1.1.1)

pub returns : goal.returns
returns c = λ g.
    fields_stored g _ _ _ _ _ c.gather.ensures c.in_ok-gathered.was _ _ c.store_all.ensures
