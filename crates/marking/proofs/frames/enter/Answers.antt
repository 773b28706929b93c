-- `marking::frames::enter` meets its contract.
use borrow.Author.Rules.{rules}
use Rattle.marking.specs.Laws.Holding.{enters_followed, enters_alone, enters_last}
use Rattle.marking.proofs.frames.enter.Goals as goal

pub returns-then-more : goal.returns-then-more
returns-then-more c = enters_followed (search rules)

pub returns-then-before-eq0 : goal.returns-then-before-eq0
returns-then-before-eq0 c = enters_alone (search rules) (search rules) (search rules)

pub returns : goal.returns
returns c = enters_last (search rules) (search rules)
