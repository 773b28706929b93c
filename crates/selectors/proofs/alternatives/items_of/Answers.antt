-- `selectors::alternatives::items_of` meets its contract: the first token tells where the items begin.
-- Assumes nothing.
use Rattle.selectors.specs.Laws.Alternatives.{alternative_room, alternative_seen, begins_nowhere, begins_inside}
use Rattle.selectors.proofs.alternatives.items_of.Goals as goal

pub kind_at-kind-requires : goal.kind_at-kind-requires
kind_at-kind-requires c = alternative_room c.requires.1

pub returns-then-kind-eq-OTHERWISE : goal.returns-then-kind-eq-OTHERWISE
returns-then-kind-eq-OTHERWISE c = λ values v. begins_nowhere c.kind_at-kind.ensures (alternative_seen v) c.if-kind-eq-OTHERWISE.true

pub returns-then-kind-eq-LBRA : goal.returns-then-kind-eq-LBRA
returns-then-kind-eq-LBRA c = λ values v. begins_inside c.kind_at-kind.ensures (alternative_seen v) c.if-kind-eq-LBRA.true
