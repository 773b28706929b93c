-- `nesting::frames::close` meets its contract.
use borrow.Author.Rules.{rules}
use Rattle.nesting.specs.Laws.Grouping.{close_shown, end_room, own_room, unclosed}
use Rattle.nesting.proofs.frames.close.Goals as goal

pub returns-then-depth-eq0 : goal.returns-then-depth-eq0
returns-then-depth-eq0 c = search (rules, unclosed)

pub flag_at-requires : goal.flag_at-requires
flag_at-requires c = search (rules, own_room)

pub mark-requires : goal.mark-requires
mark-requires c = search (rules, end_room)

pub returns : goal.returns
returns c = search (rules, close_shown)
