-- `profile::put_report` meets its contract: it passes, or the reason follows the refusal.
-- Assumes nothing.
use borrow.Author.Rules.{rules}
use Rattle.lines.specs.Laws.Appended.{and_then}
use Rattle.profile.specs.Laws.Report.{is_passed, is_refused}
use Rattle.profile.proofs.put_report.Goals as goal

pub returns-in-Done : goal.returns-in-Done
returns-in-Done c = search (rules, is_passed)

pub returns-in_default : goal.returns-in_default
returns-in_default c = search (rules, is_refused, and_then)
