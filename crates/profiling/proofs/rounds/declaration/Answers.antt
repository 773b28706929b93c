-- `profiling::rounds::declaration` meets its contract.
use borrow.Author.Rules.{rules}
use mathlib.Core.Path.{ap, ◌∙◌}
use mathlib.Core.Bool.{not}
use Rattle.profiling.specs.Laws.Levels.{name_in, part_bodiless, part_walked, to_put, to_walk}
use Rattle.profiling.proofs.rounds.declaration.Goals as goal

pub returns-then-is_none : goal.returns-then-is_none
returns-then-is_none c = part_bodiless c.requires c.body_at.result c.body_at.ensures (c.is_none.ensures ∙ ap not c.if-is_none.true) c.put_known.ensures

pub begin_behind-start-requires : goal.begin_behind-start-requires
begin_behind-start-requires c = name_in c.requires c.get16-name.ensures

pub walk-f-requires : goal.walk-f-requires
walk-f-requires c = search (rules, to_walk)

pub put_known-requires-2 : goal.put_known-requires-2
put_known-requires-2 c = search (rules, to_put)

pub returns : goal.returns
returns c = part_walked c.requires c.get16-name.ensures c.body_at.result c.body_at.ensures (c.is_none.ensures ∙ ap not c.if-is_none.false) c.begin_behind-start.ensures c.walk-f.ensures c.put_known-2.ensures
