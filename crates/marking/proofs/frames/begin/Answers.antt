-- `marking::frames::begin` meets its contract.
use borrow.Author.Rules.{rules}
use Rattle.marking.specs.Laws.Holding.{begin_shown}
use Rattle.marking.proofs.frames.begin.Goals as goal

pub returns : goal.returns
returns c = search (rules, begin_shown)
