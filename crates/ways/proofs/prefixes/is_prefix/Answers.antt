-- `ways::prefixes::is_prefix` meets its contract: by the first two tokens.
-- Assumes nothing.
use native.Mathlib.Omega.{arith}
use Rattle.ways.specs.Laws.Firsts.{starts_within}
use Rattle.ways.specs.Laws.Prefixes.{says_test, says_loop, says_other, name_room, says_name}
use Rattle.ways.proofs.prefixes.is_prefix.Goals as goal

pub kind_at-kind-requires : goal.kind_at-kind-requires
kind_at-kind-requires c = (starts_within c.requires).0

pub returns-then-kind-eq-IF : goal.returns-then-kind-eq-IF
returns-then-kind-eq-IF c = says_test _ _ c.kind_at-kind.ensures c.if-kind-eq-IF.true

pub returns-then-kind-eq-REPEAT : goal.returns-then-kind-eq-REPEAT
returns-then-kind-eq-REPEAT c = says_loop _ _ c.kind_at-kind.ensures c.if-kind-eq-REPEAT.true

pub returns-then-kind-ne-NAME : goal.returns-then-kind-ne-NAME
returns-then-kind-ne-NAME c = says_other _ _ c.kind_at-kind.ensures c.if-kind-eq-IF.false c.if-kind-eq-REPEAT.false c.if-kind-ne-NAME.true

pub overflow_add-at : goal.overflow_add-at
overflow_add-at c = omega (arith, (starts_within c.requires).1)

pub kind_at-requires : goal.kind_at-requires
kind_at-requires c = name_room _ _ c.kind_at-kind.ensures c.if-kind-eq-IF.false c.if-kind-eq-REPEAT.false c.if-kind-ne-NAME.false c.requires

pub returns : goal.returns
returns c = says_name _ _ c.kind_at-kind.ensures c.if-kind-eq-IF.false c.if-kind-eq-REPEAT.false c.if-kind-ne-NAME.false c.kind_at.ensures
