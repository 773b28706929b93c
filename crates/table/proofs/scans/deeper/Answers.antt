-- `table::scans::deeper` meets its contract: one more behind BEGIN, one fewer behind END.
-- Assumes nothing.
use borrow.Author.Rules.{rules}
use Rattle.table.specs.Laws.Scans.{deeper_begin, deeper_shut, deeper_end, deeper_same}
use Rattle.table.proofs.scans.deeper.Goals as goal

pub returns-then-kind-eq-BEGIN : goal.returns-then-kind-eq-BEGIN
returns-then-kind-eq-BEGIN c = (search (rules, deeper_begin), search rules)

pub returns-then-d-eq0 : goal.returns-then-d-eq0
returns-then-d-eq0 c = (search (rules, deeper_shut), search rules)

pub returns-then-kind-eq-END : goal.returns-then-kind-eq-END
returns-then-kind-eq-END c = (search (rules, deeper_end), search rules)

pub returns : goal.returns
returns c = (search (rules, deeper_same), search rules)
