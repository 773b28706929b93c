-- `reports::put_reason` meets its contract, a number at a time.
-- Assumes nothing.
use borrow.Author.Rules.{rules}
use Rattle.reports.specs.Laws.Reports.{is_110, is_other}
use Rattle.reports.proofs.put_reason.Goals as goal

pub returns-then-number-eq-BAD_LIST : goal.returns-then-number-eq-BAD_LIST
returns-then-number-eq-BAD_LIST c = search (rules, is_110)

pub returns-else-number-eq-BAD_LIST : goal.returns-else-number-eq-BAD_LIST
returns-else-number-eq-BAD_LIST c = search (rules, is_other)
