-- `reporting::reports::reported` meets its contract.
use borrow.Author.Rules.{rules}
use Rattle.reporting.specs.Laws.Reported.{judged, reported}
use Rattle.reporting.proofs.reports.reported.Goals as goal

pub reason_of-numbers-requires : goal.reason_of-numbers-requires
reason_of-numbers-requires c = record { judged = (judged c.checked-found.ensures, search rules); in_bounds = search rules }

pub returns : goal.returns
returns c = reported c.checked-found.ensures c.reason_of-numbers.ensures c.put_numbers.ensures
