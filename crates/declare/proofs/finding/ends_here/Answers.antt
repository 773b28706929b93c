-- `declare::finding::ends_here` meets its contract, by the number of the kind.
-- Assumes nothing.
use borrow.Author.Rules.{rules}
use Rattle.declare.proofs.Depth.{held, ended, goes_on}
use Rattle.declare.proofs.finding.ends_here.Goals as goal

pub returns-then-depth-gt0 : goal.returns-then-depth-gt0
returns-then-depth-gt0 c = search (rules, held)

pub returns-in-4 : goal.returns-in-4
returns-in-4 c = search (rules, ended)

pub returns-in_default : goal.returns-in_default
returns-in_default c = search (rules, goes_on)
