-- `resolving::resolve_one` meets its contract: a name takes the meaning of its spelling, and any other token stays as it is.
-- Assumes nothing.
use Rattle.resolving.specs.Laws.Marking.{taken_over}
use Rattle.resolving.proofs.resolve_one.Goals as goal

pub returns-then-kind_at-eq-NAME : goal.returns-then-kind_at-eq-NAME
returns-then-kind_at-eq-NAME c = let r = taken_over c.kind_at.ensures c.if-kind_at-eq-NAME.true c.link_at.ensures c.inside16_at-meaning.ensures c.put_inside.ensures c.requires in record { inside_only = r.0; marked_from = r.1 }
