-- `nesting::nests::reach` meets its contract.
use borrow.Author.Rules.{rules}
use Rattle.nesting.specs.Laws.Holding.{reach_shown}
use Rattle.nesting.proofs.nests.reach.Goals as goal

pub returns : goal.returns
returns c = search (rules, reach_shown)
