-- `pair_tables::lengths::start_joint` meets its contract: the front is judged as a run of the first text has it, then what is behind.
-- Assumes nothing.
use native.Mathlib.Omega.{arith}
use lib.ListN.{length-take}
use Rattle.std.proofs.lemmas.Result.{err_from_is_err_and}
use Rattle.table.specs.Ready.{table_of}
use Rattle.pair_tables.specs.Laws.Fronts.{front_room, joint_declined, joint_begun}
use Rattle.pair_tables.proofs.lengths.start_joint.Goals as goal

pub overflow_mul-size : goal.overflow_mul-size
overflow_mul-size c = omega (arith, (front_room c.requires.2).1)

pub slice_bounds-start-end : goal.slice_bounds-start-end
slice_bounds-start-end c = simp length-take (omega (arith, (front_room c.requires.2).0))

pub start-requires : goal.start-requires
start-requires c = (c.requires.0.text, c.requires.0.tokens, c.requires.0.description, c.requires.0.ready)

pub start_behind-requires : goal.start_behind-requires
start_behind-requires c = (table_of c.requires.0, c.requires.1, c.requires.2)

pub returns-in_err-start : goal.returns-in_err-start
returns-in_err-start c = λ v w h.
    let p = err_from_is_err_and c.from_residual.result c.from_residual.ensures.1 in
    rw (p.1, p.2) (joint_declined h (c.start.ensures _ _ _ v.ready) c.in_err-start.was)

pub returns : goal.returns
returns c = λ v w h. joint_begun h (c.start.ensures _ _ _ v.ready) c.in_ok-start.was (c.start_behind.ensures (table_of v) w h)
