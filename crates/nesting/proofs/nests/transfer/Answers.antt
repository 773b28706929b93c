-- `nesting::nests::transfer` meets its contract.
use borrow.Author.Rules.{rules}
use Rattle.nesting.specs.Laws.Holding.{transfer_shown}
use Rattle.nesting.proofs.nests.transfer.Goals as goal

pub returns : goal.returns
returns c = search (rules, transfer_shown)
