-- `nesting::frames::open` meets its contract.
use borrow.Author.Rules.{rules}
use Rattle.nesting.specs.Laws.Grouping.{alternatives_opened, block_opened, to_open, too_deep}
use Rattle.nesting.proofs.frames.open.Goals as goal

pub returns-then-depth-ge-DEEPEST : goal.returns-then-depth-ge-DEEPEST
returns-then-depth-ge-DEEPEST c = search (rules, too_deep)

pub push-requires : goal.push-requires
push-requires c = to_open c.if-depth-ge-DEEPEST.false c.requires

pub returns-then-choosing : goal.returns-then-choosing
returns-then-choosing c = search (rules, alternatives_opened)

pub returns : goal.returns
returns c = search (rules, block_opened)
