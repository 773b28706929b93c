-- `sharing::writers` meets its contract.
use mathlib.Core.Bool.{true, false}
use Rattle.sharing.specs.Laws.Shared.{writers_are}
use Rattle.sharing.proofs.writers.Goals as goal

pub returns-then-has-2 : goal.returns-then-has-2
returns-then-has-2 c = writers_are _ _ _ _ _ c.has.ensures true true c.if-has.true c.has-then-has.ensures c.if-has-2.true

pub returns-then-has : goal.returns-then-has
returns-then-has c = writers_are _ _ _ _ _ c.has.ensures true false c.if-has.true c.has-then-has.ensures c.if-has-2.false

pub returns-then-has-3 : goal.returns-then-has-3
returns-then-has-3 c = writers_are _ _ _ _ _ c.has.ensures false true c.if-has.false c.has-2.ensures c.if-has-3.true

pub returns : goal.returns
returns c = writers_are _ _ _ _ _ c.has.ensures false false c.if-has.false c.has-2.ensures c.if-has-3.false
