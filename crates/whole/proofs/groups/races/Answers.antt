-- `whole::groups::races` meets its contract.
use Rattle.whole.specs.Laws.GroupKeys.{race_first, race_second}
use Rattle.whole.proofs.groups.races.Goals as goal

pub returns-then-meets : goal.returns-then-meets
returns-then-meets c = race_first _ _ _ _ _ _ c.union-all.ensures c.union.ensures c.meets.ensures c.if-meets.true

pub returns : goal.returns
returns c =
    race_second _ _ _ _ _ _ c.union-all.ensures c.union.ensures
    c.meets.ensures c.if-meets.false c.meets-2.ensures
