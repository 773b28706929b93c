-- `bounding::filling::blank` meets its contract.
use borrow.Author.Rules.{rules}
use Rattle.bounding.specs.Laws.Filling.{none_blank, one_blank, last_room, all_blank}
use Rattle.bounding.proofs.filling.blank.Goals as goal

pub loop-k-init : goal.loop-k-init
loop-k-init c = search (rules, none_blank)

pub loop-k-preserved : goal.loop-k-preserved
loop-k-preserved c = search (rules, one_blank)

pub put64-requires-2 : goal.put64-requires-2
put64-requires-2 c = search (rules, last_room)

pub returns : goal.returns
returns c = all_blank c.loop-k.invariant c.loop-k-test.false c.put64-2.ensures
