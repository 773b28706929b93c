-- `declare::finding::depth_behind` meets its contract, by the number of the kind.
-- Assumes nothing.
use borrow.Author.Rules.{rules}
use Rattle.declare.proofs.Depth.{one_more, none_fewer, one_fewer, as_many}
use Rattle.declare.proofs.finding.depth_behind.Goals as goal

pub returns-then-depth-eq0 : goal.returns-then-depth-eq0
returns-then-depth-eq0 c = search (rules, none_fewer)

pub returns-in-3 : goal.returns-in-3
returns-in-3 c = search (rules, one_more)

pub returns-else-depth-eq0 : goal.returns-else-depth-eq0
returns-else-depth-eq0 c = search (rules, one_fewer)

pub returns-in_default : goal.returns-in_default
returns-in_default c = search (rules, as_many)
