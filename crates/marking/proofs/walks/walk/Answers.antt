-- `marking::walks::walk` meets its contract.
use borrow.Author.Rules.{rules}
use Rattle.marking.specs.Laws.Going.{goes, to_put, to_act, goes_on, over}
use Rattle.marking.proofs.walks.walk.Goals as goal

pub loop-i-init : goal.loop-i-init
loop-i-init c = search (rules, goes)

pub put_pair-requires : goal.put_pair-requires
put_pair-requires c = to_put c.loop-i.invariant c.loop-i-test.true

pub step-s-requires : goal.step-s-requires
step-s-requires c = search (rules, to_act)

pub loop-i-preserved : goal.loop-i-preserved
loop-i-preserved c = search (rules, goes_on)

pub returns : goal.returns
returns c = search (rules, over)
