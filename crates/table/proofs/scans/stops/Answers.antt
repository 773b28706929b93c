-- `table::scans::stops` meets its contract.
-- Assumes nothing.
use borrow.Author.Rules.{rules}
use Rattle.table.specs.Laws.Scans.{stops_any, stops_one}
use Rattle.table.proofs.scans.stops.Goals as goal

pub returns-then-goal-eq-SEPARATOR : goal.returns-then-goal-eq-SEPARATOR
returns-then-goal-eq-SEPARATOR c = search (rules, stops_any)

pub returns : goal.returns
returns c = search (rules, stops_one)
