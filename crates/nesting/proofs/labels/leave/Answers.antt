-- `nesting::labels::leave` meets its contract.
use borrow.Author.Rules.{rules}
use borrow.Author.Tests.{not-true}
use Rattle.nesting.specs.Laws.Labels.{left_idle, left_flag, left_nowhere, flag_room, to_seek}
use Rattle.nesting.proofs.labels.leave.Goals as goal

pub returns-then-not-s : goal.returns-then-not-s
returns-then-not-s c = left_idle _ (not-true _ c.if-not-s.true)

pub flag_of-requires : goal.flag_of-requires
flag_of-requires c = search (rules, to_seek)

pub mark-requires : goal.mark-requires
mark-requires c = flag_room c.flag_of.ensures c.requires c.in-Some.is

pub returns-in-Some : goal.returns-in-Some
returns-in-Some c = search (rules, left_flag)

pub returns-in_default : goal.returns-in_default
returns-in_default c = search (rules, left_nowhere)
