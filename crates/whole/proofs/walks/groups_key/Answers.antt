-- `whole::walks::groups_key` meets its contract.
use borrow.Author.Rules.{rules}
use Rattle.whole.specs.Laws.WalkKeys.{bodies_none, bodies_more, bodies_all}
use Rattle.whole.proofs.walks.groups_key.Goals as goal

pub loop-k-init : goal.loop-k-init
loop-k-init c = search (rules, bodies_none)

pub loop-k-preserved : goal.loop-k-preserved
loop-k-preserved c = search (rules, bodies_more)

pub returns : goal.returns
returns c = bodies_all c.loop-k.invariant c.loop-k-test.false
