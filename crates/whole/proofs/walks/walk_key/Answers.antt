-- `whole::walks::walk_key` meets its contract.
use borrow.Author.Rules.{rules}
use Rattle.whole.specs.Laws.WalkKeys.{walk_starts, walk_ended, walk_turning, walk_on, walk_over}
use Rattle.whole.proofs.walks.walk_key.Goals as goal

pub loop-i-init : goal.loop-i-init
loop-i-init c = search (rules, walk_starts)

pub returns-then-closes : goal.returns-then-closes
returns-then-closes c = walk_ended c.loop-i.invariant c.loop-i-test.true c.kind_at-kind.ensures c.closes.ensures c.if-closes.true

pub turn_in-next-requires : goal.turn_in-next-requires
turn_in-next-requires c = search (rules, walk_turning)

pub loop-i-preserved : goal.loop-i-preserved
loop-i-preserved c = search (rules, walk_on)

pub returns : goal.returns
returns c = walk_over c.loop-i.invariant c.loop-i-test.false
