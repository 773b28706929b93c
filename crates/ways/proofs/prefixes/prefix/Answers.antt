-- `ways::prefixes::prefix` meets its contract: IF, REPEAT, and else a label.
-- Assumes nothing.
use native.Mathlib.Omega.{arith}
use Rattle.ways.specs.Laws.Standing.{within, begins_fits}
use Rattle.ways.specs.Laws.Prefixes.{heads, labels_here, test_at, past_test, turn_at, past_turn, label_room, past_label}
use Rattle.ways.proofs.prefixes.prefix.Goals as goal

pub kind_at-kind-requires : goal.kind_at-kind-requires
kind_at-kind-requires c = (within c.requires.2).1

pub test-start-requires : goal.test-start-requires
test-start-requires c = let v = c.requires.2 in ((c.requires.0, test_at v (heads v c.kind_at-kind.ensures 22 c.if-kind-eq-IF.true)), v.link_fits)

pub returns-then-kind-eq-IF : goal.returns-then-kind-eq-IF
returns-then-kind-eq-IF c = λ g depth v e. let h = heads v c.kind_at-kind.ensures 22 c.if-kind-eq-IF.true in let t = c.test-start.ensures g (test_at v h) in (past_test v h t, omega (arith, t.to))

pub turn-inner-requires : goal.turn-inner-requires
turn-inner-requires c = let v = c.requires.2 in (c.requires.0, turn_at v (heads v c.kind_at-kind.ensures 25 c.if-kind-eq-REPEAT.true))

pub overflow_add-result : goal.overflow_add-result
overflow_add-result c = omega (arith, (within c.requires.2).2)

pub returns-then-kind-eq-REPEAT : goal.returns-then-kind-eq-REPEAT
returns-then-kind-eq-REPEAT c = λ g depth v e. let h = heads v c.kind_at-kind.ensures 25 c.if-kind-eq-REPEAT.true in (past_turn v h (c.turn-inner.ensures g (turn_at v h)), omega arith)

pub push-requires : goal.push-requires
push-requires c =
    let v = c.requires.2 in
    let h = labels_here v c.kind_at-kind.ensures c.requires.3 c.if-kind-eq-IF.false c.if-kind-eq-REPEAT.false in
    let room = label_room v h.0 h.1 in
    (room.0, room.1, (within v).1, omega (arith, (within v).2), omega (arith, begins_fits v), v.link_fits)

pub overflow_add-result-2 : goal.overflow_add-result-2
overflow_add-result-2 c = omega (arith, (within c.requires.2).2)

pub returns : goal.returns
returns c =
    λ g depth v e. let h = labels_here v c.kind_at-kind.ensures e c.if-kind-eq-IF.false c.if-kind-eq-REPEAT.false in
    (past_label v h.0 h.1 c.push.ensures, omega arith)
