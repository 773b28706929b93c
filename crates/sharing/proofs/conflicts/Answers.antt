-- `sharing::conflicts` meets its contract.
use Rattle.sharing.specs.Laws.Shared.{both_touch, second_writes, first_reads, none_writes}
use Rattle.sharing.proofs.conflicts.Goals as goal

pub returns-then-has-2 : goal.returns-then-has-2
returns-then-has-2 c = both_touch _ _ _ _ _ c.has.ensures c.if-has.true c.has-then-has.ensures c.if-has-2.true

pub returns-then-has : goal.returns-then-has
returns-then-has c =
    second_writes _ _ _ _ _ c.has.ensures c.if-has.true c.has-then-has.ensures
    c.if-has-2.false c.has-then-has-2.ensures

pub returns-then-has-3 : goal.returns-then-has-3
returns-then-has-3 c =
    first_reads _ _ _ _ _ c.has.ensures c.if-has.false c.has-2.ensures
    c.if-has-3.true c.has-then-has-3.ensures

pub returns : goal.returns
returns c = none_writes _ _ _ _ _ c.has.ensures c.if-has.false c.has-2.ensures c.if-has-3.false
