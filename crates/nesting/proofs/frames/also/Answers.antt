-- `nesting::frames::also` meets its contract.
use borrow.Author.Rules.{rules}
use Rattle.nesting.specs.Laws.Grouping.{also_shown, none_also, own_room, to_resume}
use Rattle.nesting.proofs.frames.also.Goals as goal

pub returns-then-depth-eq0 : goal.returns-then-depth-eq0
returns-then-depth-eq0 c = search (rules, none_also)

pub take-requires : goal.take-requires
take-requires c = search (rules, own_room)

pub resume-requires : goal.resume-requires
resume-requires c = search (rules, to_resume)

pub returns : goal.returns
returns c = search (rules, also_shown)
