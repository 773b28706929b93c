-- `nesting::nests::choosing` meets its contract.
use borrow.Author.Rules.{rules}
use Rattle.nesting.specs.Laws.Holding.{chosen_shown}
use Rattle.nesting.proofs.nests.choosing.Goals as goal

pub returns : goal.returns
returns c = search (rules, chosen_shown)
