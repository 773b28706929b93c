-- `evaluation::transfers::assign_joined` meets its contract: all fields are gathered before the first store.
-- Assumes nothing.
use native.Mathlib.Omega.{arith}
use Rattle.operands.specs.Laws.Passed.{passed}
use Rattle.evaluation.specs.Transfers.{JoinedAnswer}
use Rattle.evaluation.specs.Laws.Transfers.{joined_faults, stores_room, stores_at, joined_stored}
use Rattle.evaluation.proofs.transfers.assign_joined.Goals as goal

pub store_all-requires : goal.store_all-requires
store_all-requires c =
    let v = c.requires.0 in
    let f = c.gather.ensures in
    let e = c.in_ok-gathered.was in
    (stores_at v _ f e, stores_room v _ f e (omega (arith, c.gather.auto.fields, c.requires.1)))

pub returns-in_err-gathered : goal.returns-in_err-gathered
returns-in_err-gathered c = λ v. passed (JoinedAnswer v _ _) _ c.from_residual.ensures.1 (joined_faults v _ _ c.gather.ensures c.in_err-gathered.was)

pub returns : goal.returns
returns c = λ v. joined_stored v _ c.gather.ensures c.in_ok-gathered.was _ _ c.store_all.ensures
