-- `pair_tables::judging::judge` meets its contract: the refusals come in their order.
-- Assumes nothing.
use native.Mathlib.Omega.{arith}
use Rattle.pair_tables.specs.Standing.{scene_of, declared_by}
use Rattle.pair_tables.specs.Laws.Joins.{stands_small}
use Rattle.pair_tables.specs.Laws.Judging.{clash_80, bad_81, uncarried_by, uncarried_down, carried_by, carried_taken}
use Rattle.pair_tables.proofs.judging.judge.Goals as goal

pub returns-then-key : goal.returns-then-key
returns-then-key c = λ v w. clash_80 (c.join-joined.ensures.0 v w) (stands_small (declared_by v) w) _ _ c.fault_of.ensures.0 c.fault_of.ensures.1 c.if-key.true

pub returns-then-bad-turns : goal.returns-then-bad-turns
returns-then-bad-turns c = λ v w. bad_81 (c.join-joined.ensures.0 v w) (stands_small (declared_by v) w) _ _ c.if-key.false c.first_bad_turn-bad.ensures c.if-bad-turns.true

pub judge_carriers-requires : goal.judge_carriers-requires
judge_carriers-requires c = record { by_index = (_, scene_of c.requires.stands.0, scene_of c.requires.stands.1, c.join-joined.ensures.0 c.requires.stands.0 c.requires.stands.1); m1_in_bounds = omega (arith, c.requires.m1_in_bounds, c.join-joined.ensures.1) }

pub returns-in-Err : goal.returns-in-Err
returns-in-Err c =
    λ v w. let j = c.join-joined.ensures.0 v w in
    uncarried_down j (stands_small (declared_by v) w) _ _ c.if-key.false c.first_bad_turn-bad.ensures
    c.if-bad-turns.false (uncarried_by (c.judge_carriers.ensures _ (scene_of v) (scene_of w) j) c.in-Err.is)

pub returns-in-Ok : goal.returns-in-Ok
returns-in-Ok c =
    λ v w. let j = c.join-joined.ensures.0 v w in
    carried_taken j (stands_small (declared_by v) w) _ _ c.if-key.false c.first_bad_turn-bad.ensures c.if-bad-turns.false
    (carried_by (c.judge_carriers.ensures _ (scene_of v) (scene_of w) j) c.in-Ok.is)
