-- `pair_turns::turns::front_run` meets its contract: the run on the words in front, by the promise.
-- Assumes nothing.
use native.Mathlib.Omega.{arith}
use lib.ListN.{length-take}
use Rattle.pair_turns.specs.Laws.Turns.{run_at, taken_long, front_ran}
use Rattle.pair_turns.proofs.turns.front_run.Goals as goal

pub slice_bounds-run-end-2 : goal.slice_bounds-run-end-2
slice_bounds-run-end-2 c = simp length-take (omega arith)

pub run-requires : goal.run-requires
run-requires c = (run_at c.requires.runnable.1 c.requires.runnable.2 _ (taken_long c.requires.runnable.1 c.requires.runnable.2 _ c.requires.w_in_bounds.0), c.requires.w_in_bounds.1)

pub returns : goal.returns
returns c ds v count =
    front_ran v count c.requires.w_in_bounds.0 c.run.auto.carriers (c.run.ensures (run_at v count _ (taken_long v count _ c.requires.w_in_bounds.0)))
