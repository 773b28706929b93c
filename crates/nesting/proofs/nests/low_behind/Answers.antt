-- `nesting::nests::low_behind` meets its contract.
use borrow.Author.Rules.{rules}
use Rattle.nesting.specs.Laws.Holding.{low_unwritten, low_written}
use Rattle.nesting.proofs.nests.low_behind.Goals as goal

pub returns-in-None : goal.returns-in-None
returns-in-None c = search (rules, low_unwritten)

pub returns-in-Some : goal.returns-in-Some
returns-in-Some c = search (rules, low_written)
