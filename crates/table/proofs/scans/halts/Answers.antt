-- `table::scans::halts` meets its contract: inside a block the search goes on.
-- Assumes nothing.
use borrow.Author.Rules.{rules}
use Rattle.table.specs.Laws.Scans.{halts_top, halts_inside}
use Rattle.table.proofs.scans.halts.Goals as goal

pub returns-then-d-eq0 : goal.returns-then-d-eq0
returns-then-d-eq0 c = search (rules, halts_top)

pub returns-else-d-eq0 : goal.returns-else-d-eq0
returns-else-d-eq0 c = search (rules, halts_inside)
