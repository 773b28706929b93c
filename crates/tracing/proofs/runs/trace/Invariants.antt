-- `tracing::runs::trace` meets its contract: at each turn the machine has the rest of the run to do, and the rest to report.
-- Assumes nothing.
use Prim.Native.Nat.{ℕ, ◌≤◌}
use mathlib.Core.Path.{◌≡◌}
use mathlib.Core.List.{List}
use lib.ListN.{length}
use Rattle.runner.specs.Runs.{stack_of}
use Rattle.tracing.specs.Traces.{TraceAt}
use Rattle.tracing.specs.Laws.Traces.{Tracing, Entered}
use Rattle.tracing.proofs.runs.trace.Given as goal

abbrev pub invariant-loop-steps : goal.invariant-loop-steps
invariant-loop-steps l =
    (l.steps ≤ l.budget) × ((length l.memory ≡ length l.initial.memory) × ((length l.room ≡ length l.initial.room) × ((length l.scratch ≡ 512) × ((length l.stack ≡ 16)
    × ((room₁ : List ℕ) (v : TraceAt l.records l.values l.decls l.initial.memory room₁ l.entries l.start l.n l.size) → Entered v l.budget l.initial.room
    → Tracing v l.budget l.memory l.room (stack_of l.stack l.depth) l.at l.steps)))))
