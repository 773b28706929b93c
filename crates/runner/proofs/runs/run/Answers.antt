-- `runner::runs::run` meets its contract: at each turn the machine has the rest of the run to do.
-- Assumes nothing.
use borrow.Author.Rules.{rules}
use native.Mathlib.Omega.{arith}
use mathlib.Core.Path.{refl, ◌∙◌}
use mathlib.Core.List.{List}
use Prim.Native.Nat.{ℕ}
use Rattle.std.specs.Prelude.{◌≡◌, Result, Ok}
use Rattle.std.proofs.Common.{ap, subst}
use Rattle.stepping.specs.declared.steps.Moved.{Moved}
use Rattle.stepping.specs.declared.steps.Fault.{Fault}
use Rattle.stepping.specs.Steps.{StepAt, StepAnswer}
use Rattle.runner.specs.declared.runs.Ended.TheVariants.{Paused}
use Rattle.runner.specs.Runs.{RunAnswer}
use Rattle.runner.specs.Laws.Turns.{faults}
use Rattle.runner.specs.Laws.Runs.{run_begins, step_at, turn_room, faults_there, stops_there, ends_there, goes_there, pauses}
use Rattle.runner.proofs.runs.run.Goals as goal

-- what is told of a step whose result is known
stepped : {records values decls carriers after : List ℕ} {n : ℕ} {r q : Result Moved Fault} → r ≡ q
    → ((v : StepAt records values decls carriers n) → StepAnswer v after r) → (v : StepAt records values decls carriers n) → StepAnswer v after q
stepped {after = after} e f v = subst (StepAnswer v after) e (f v)

pub loop-steps-init : goal.loop-steps-init
loop-steps-init c = (search rules, (refl, (refl, (search rules, λ v. run_begins v _ _))))

pub step-requires : goal.step-requires
step-requires c = (step_at c.requires.0 _ (c.loop-steps.invariant.1.1.1.1 c.requires.0) c.loop-steps.invariant.1.0, omega (arith, c.loop-steps.invariant.1.1.0, c.requires.1))

pub returns-in-Err : goal.returns-in-Err
returns-in-Err c = λ v.
    faults_there v _ (c.loop-steps.invariant.1.1.1.1 v) c.loop-steps.invariant.1.0 c.loop-steps-test.true c.step.ensures (faults c.loop-steps.stack c.loop-steps.depth c.in-Err.is) refl

pub onward-requires : goal.onward-requires
onward-requires c =
    turn_room c.requires.0 _ _ _ (c.loop-steps.invariant.1.1.1.1 c.requires.0) c.loop-steps.invariant.1.0 c.loop-steps-test.true (stepped c.in-Ok.is c.step.ensures)
    (omega (arith, c.step.auto.carriers)) c.loop-steps.invariant.1.1.1.0

pub returns-in-Stop : goal.returns-in-Stop
returns-in-Stop c = λ v.
    stops_there v _ (c.loop-steps.invariant.1.1.1.1 v) c.loop-steps.invariant.1.0 c.loop-steps-test.true (stepped c.in-Ok.is c.step.ensures) c.onward.ensures (ap Ok c.in-Stop.is)

pub returns-in-Over : goal.returns-in-Over
returns-in-Over c = λ v.
    ends_there v _ (c.loop-steps.invariant.1.1.1.1 v) c.loop-steps.invariant.1.0 c.loop-steps-test.true (stepped c.in-Ok.is c.step.ensures) c.onward.ensures (ap Ok c.in-Over.is)

pub loop-steps-preserved : goal.loop-steps-preserved
loop-steps-preserved c = (omega (arith, c.loop-steps-test.true), (omega (arith, c.step.auto.carriers, c.loop-steps.invariant.1.0), (omega (arith, c.step.auto.scratch, c.loop-steps.invariant.1.1.0), (c.onward.ensures.size ∙ c.loop-steps.invariant.1.1.1.0, λ v. goes_there v _ (c.loop-steps.invariant.1.1.1.1 v) c.loop-steps.invariant.1.0 c.loop-steps-test.true (stepped c.in-Ok.is c.step.ensures) c.onward.ensures (ap Ok c.in-At.is)))))

pub returns : goal.returns
returns c = λ v.
    let e : c.loop-steps.steps ≡ c.args.budget = omega arith in
    subst (λ k. RunAnswer v c.args.budget c.loop-steps.carriers (Paused k)) e (pauses v _ (c.loop-steps.invariant.1.1.1.1 v) c.loop-steps.invariant.1.0 (omega arith) c.loop-steps.invariant.0)
