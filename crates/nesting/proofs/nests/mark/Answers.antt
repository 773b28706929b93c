-- `nesting::nests::mark` meets its contract.
use borrow.Author.Rules.{rules}
use Rattle.nesting.specs.Laws.Holding.{put_set, set_none}
use Rattle.nesting.proofs.nests.mark.Goals as goal

pub returns-then-b : goal.returns-then-b
returns-then-b c = search (rules, put_set)

pub returns-else-b : goal.returns-else-b
returns-else-b c = search (rules, set_none)
