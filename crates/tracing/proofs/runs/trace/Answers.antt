-- `tracing::runs::trace` meets its contract: at each turn the machine has the rest of the run to do, and the rest to report.
-- Assumes nothing.
use borrow.Author.Rules.{rules}
use native.Mathlib.Omega.{arith}
use mathlib.Core.Path.{◌≡◌, refl, sym, ap, ◌∙◌}
use Rattle.std.specs.Prelude.{Result, Ok, Err}
use Rattle.stepping.specs.declared.steps.Fault.{Fault}
use Rattle.runner.specs.declared.turns.Turned.{Turned}
use Rattle.std.proofs.Common.{subst}
use Rattle.runner.specs.declared.runs.Ended.TheVariants.{Paused}
use Rattle.tracing.specs.Traces.{ended_by, TraceTold}
use Rattle.tracing.specs.Laws.Traces.{enters, tracing_begins, turn_at, ends, goes_on, pauses}
use Rattle.tracing.proofs.runs.trace.Goals as goal

-- a turn is the one that it is, and a fault is none
same_turn : {t u : Turned} → ◌≡◌ {A = Result Turned Fault} (Ok t) (Ok u) → t ≡ u
same_turn e = cc

failed_not : {f : Fault} {t : Turned} → ◌≡◌ {A = Result Turned Fault} (Err f) (Ok t) → ⊥
failed_not e = cc

pub slice_bounds-enter-count : goal.slice_bounds-enter-count
slice_bounds-enter-count c = omega (arith, c.requires.long)

pub slice_bounds-enter-start : goal.slice_bounds-enter-start
slice_bounds-enter-start c = search rules

pub slice_bounds-enter-end : goal.slice_bounds-enter-end
slice_bounds-enter-end c = search rules

pub enter-requires : goal.enter-requires
enter-requires c = enters c.requires 0

pub loop-steps-init : goal.loop-steps-init
loop-steps-init c = (search rules, (refl, (refl, (search rules, (search rules, λ room₁ v e. tracing_begins v _ e _)))))

pub slice_bounds-turn-end : goal.slice_bounds-turn-end
slice_bounds-turn-end c = search rules

pub slice_bounds-turn-end-in-loop-steps : goal.slice_bounds-turn-end-in-loop-steps
slice_bounds-turn-end-in-loop-steps c = search rules

pub turn-requires : goal.turn-requires
turn-requires c =
    (turn_at c.requires _ _ _ (c.loop-steps.invariant.1.1.1.1.1 _ c.requires c.enter.ensures) c.loop-steps.invariant.1.0 c.loop-steps.invariant.1.1.1.1.0, omega (arith, c.loop-steps.invariant.1.1.1.0))

pub ended-requires : goal.ended-requires
ended-requires c = omega (arith, c.loop-steps-test.true, c.ranges.budget)

pub returns-in-Err : goal.returns-in-Err
returns-in-Err c = λ v.
    ends v _ _ _ (c.loop-steps.invariant.1.1.1.1.1 _ v c.enter.ensures) c.loop-steps.invariant.1.0 c.loop-steps.invariant.1.1.1.1.0 c.loop-steps-test.true c.turn.ensures
    (λ n d e. absurd (failed_not (sym c.in-Err.is ∙ e))) (sym (ap (λ t. ended_by t c.loop-steps.steps) c.in-Err.is))

pub returns-in_default : goal.returns-in_default
returns-in_default c = λ v.
    ends v _ _ _ (c.loop-steps.invariant.1.1.1.1.1 _ v c.enter.ensures) c.loop-steps.invariant.1.0 c.loop-steps.invariant.1.1.1.1.0 c.loop-steps-test.true c.turn.ensures
    (λ n d e. c.in_default.not-At n d (same_turn (sym c.in-Ok.is ∙ e))) (c.ended.ensures ∙ sym (ap (λ t. ended_by t c.loop-steps.steps) c.in-Ok.is))

pub loop-steps-preserved : goal.loop-steps-preserved
loop-steps-preserved c = (
  omega (arith, c.loop-steps-test.true),
  (
    omega (arith, c.turn.auto.memory, c.loop-steps.invariant.1.0),
    (
      omega (arith, c.turn.auto.room, c.loop-steps.invariant.1.1.0),
      (
        omega (arith, c.turn.auto.scratch, c.loop-steps.invariant.1.1.1.0),
        (
          omega (arith, c.turn.auto.stack, c.loop-steps.invariant.1.1.1.1.0),
          λ room₁ v e. goes_on v _ _ _ (c.loop-steps.invariant.1.1.1.1.1 room₁ v e) c.loop-steps.invariant.1.0 c.loop-steps.invariant.1.1.1.1.0 c.loop-steps-test.true c.turn.ensures (c.in-Ok.is ∙ ap Ok c.in-At.is),
        ),
      ),
    ),
  ),
)

pub returns : goal.returns
returns c = λ v.
    let e : c.loop-steps.steps ≡ c.args.budget = omega arith in
    subst (λ k. TraceTold v c.args.budget c.loop-steps.memory c.loop-steps.room (Paused k)) e
    (pauses v _ _ _ (c.loop-steps.invariant.1.1.1.1.1 _ v c.enter.ensures) c.loop-steps.invariant.1.0 c.loop-steps.invariant.1.1.1.1.0 (omega arith) c.loop-steps.invariant.0)
