-- `nots::behind_nots` meets its contract: each turn passes a NOT, and the table ends.
-- Assumes nothing.
use Rattle.nots.specs.Laws.Nots.{baring_room, not_passed, all_passed}
use Rattle.nots.proofs.behind_nots.Goals as goal

pub kind_at-requires : goal.kind_at-requires
kind_at-requires c = baring_room (c.loop-at.invariant c.requires)

pub returns : goal.returns
returns c = λ v. all_passed (c.loop-at.invariant v) c.kind_at.ensures c.loop-at-test.false

pub loop-at-preserved : goal.loop-at-preserved
loop-at-preserved c = λ v. not_passed (c.loop-at.invariant v) c.kind_at.ensures c.loop-at-test.true
