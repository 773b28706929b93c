-- `nesting::nests::turning` meets its contract.
use borrow.Author.Rules.{rules}
use Rattle.nesting.specs.Laws.Holding.{looped_shown}
use Rattle.nesting.proofs.nests.turning.Goals as goal

pub returns : goal.returns
returns c = search (rules, looped_shown)
