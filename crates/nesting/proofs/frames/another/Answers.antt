-- `nesting::frames::another` meets its contract.
use borrow.Author.Rules.{rules}
use Rattle.nesting.specs.Laws.Grouping.{another_shown, none_another}
use Rattle.nesting.proofs.frames.another.Goals as goal

pub returns-then-depth-eq0 : goal.returns-then-depth-eq0
returns-then-depth-eq0 c = search (rules, none_another)

pub returns : goal.returns
returns c = search (rules, another_shown)
