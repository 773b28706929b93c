-- `nesting::nests::destine` meets its contract.
use borrow.Author.Rules.{rules}
use Rattle.nesting.specs.Laws.Holding.{part_first, part_later}
use Rattle.nesting.proofs.nests.destine.Goals as goal

pub returns-in-None : goal.returns-in-None
returns-in-None c = search (rules, part_first)

pub returns-in-Some : goal.returns-in-Some
returns-in-Some c = search (rules, part_later)
