-- `runner::runs::run` meets its contract: at each turn the machine has the rest of the run to do.
-- Assumes nothing.
use mathlib.Core.Path.{◌≡◌}
use Prim.Native.Nat.{◌≤◌}
use lib.ListN.{length}
use Rattle.runner.specs.Runs.{stack_of, RunAt}
use Rattle.runner.specs.Laws.Runs.{Running}
use Rattle.runner.proofs.runs.run.Given as goal

abbrev pub invariant-loop-steps : goal.invariant-loop-steps
invariant-loop-steps l =
    (l.steps ≤ l.budget) × ((length l.carriers ≡ length l.initial.carriers) × ((length l.scratch ≡ length l.initial.scratch) × ((length l.stack ≡ 16)
    × ((v : RunAt l.records l.values l.decls l.initial.carriers l.start) → Running v l.budget l.carriers (stack_of l.stack l.depth) l.at l.steps))))
