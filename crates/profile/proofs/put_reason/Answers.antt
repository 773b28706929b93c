-- `profile::put_reason` meets its contract, a number at a time.
-- Assumes nothing.
use borrow.Author.Rules.{rules}
use Rattle.profile.specs.Laws.Report.{is_90, is_91, is_92, is_other}
use Rattle.profile.proofs.put_reason.Goals as goal

pub returns-in-90 : goal.returns-in-90
returns-in-90 c = search (rules, is_90)

pub returns-in-91 : goal.returns-in-91
returns-in-91 c = search (rules, is_91)

pub returns-in-92 : goal.returns-in-92
returns-in-92 c = search (rules, is_92)

pub returns-in_default : goal.returns-in_default
returns-in_default c = search (rules, is_other)
