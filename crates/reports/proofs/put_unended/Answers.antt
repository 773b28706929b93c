-- `reports::put_unended` meets its contract: one follows the other.
-- Assumes nothing.
use borrow.Author.Rules.{rules}
use Rattle.lines.specs.Laws.Appended.{and_then}
use Rattle.reports.proofs.put_unended.Goals as goal

pub returns : goal.returns
returns c = search (rules, and_then)
