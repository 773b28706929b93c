-- The run of the flat machine with a budget.
use Rattle.std.specs.Prelude.{ℕ, zero, suc, List}
use Rattle.rules.specs.Declarations.{Table}
use Rattle.rules.specs.Steps.Evaluation.{Carriers}
use Rattle.rules.specs.Steps.Runs.{Run, run_with, done, halted, paused, faulted}
use Rattle.laws_orders.specs.Cited.Flat.{step_m, runs, ended, stood, broke, Code}

module _ (ds : Table) (C : Code) where
  -- the machine's run with a budget b, after k steps, from an instruction with a stack
  unfoldable pub run_m : ℕ → ℕ → ℕ → List ℕ → Carriers → Run
  run_m zero k n σ s = run_with paused k s
  run_m (suc b) k n σ s =
      elim (step_m ds C n σ s) [
        | runs n' σ' u ↦ run_m b (suc k) n' σ' u
        | ended u ↦ run_with done (suc k) u
        | stood u ↦ run_with halted (suc k) u
        | broke m p u ↦ run_with (faulted m p) k u
      ]
