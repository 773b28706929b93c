-- `marking::frames::open` meets its contract.
use borrow.Author.Rules.{rules}
use Rattle.marking.specs.Laws.Holding.{too_deep, open_shown}
use Rattle.marking.proofs.frames.open.Goals as goal

pub returns-then-depth-ge-DEEPEST : goal.returns-then-depth-ge-DEEPEST
returns-then-depth-ge-DEEPEST c = search (rules, too_deep)

pub returns : goal.returns
returns c = open_shown _ (search rules) c.begin.ensures
