-- `counting::frames::another` meets its contract.
use borrow.Author.Rules.{rules}
use Rattle.counting.specs.Laws.Holding.{another_none, another_shown}
use Rattle.counting.proofs.frames.another.Goals as goal

pub returns-then-depth-eq0 : goal.returns-then-depth-eq0
returns-then-depth-eq0 c = search (rules, another_none)

pub returns : goal.returns
returns c = search (rules, another_shown)
