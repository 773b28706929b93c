-- `tracing::turns::turn` meets its contract: the carriers are lent to the step, and then the cells to its way.
-- Assumes nothing.
use native.Mathlib.Omega.{arith}
use Rattle.std.specs.Prelude.{◌≡◌, ℕ, List, Result}
use Rattle.std.proofs.Common.{subst}
use Rattle.rules.specs.Stores.{Entry}
use Rattle.operands.specs.Laws.Passed.{passed}
use Rattle.stepping.specs.declared.steps.Moved.{Moved}
use Rattle.stepping.specs.declared.steps.Fault.{Fault}
use Rattle.stepping.specs.Steps.{StepAt}
use Rattle.turning.specs.Laws.Ways.{way_faults}
use Rattle.tracing.specs.Acts.{ActTold}
use Rattle.tracing.specs.Turns.{TurnTold}
use Rattle.tracing.specs.Laws.Turns.{part_length, turn_way, turn_told}
use Rattle.tracing.proofs.turns.turn.Goals as goal

pub slice_bounds-act-end-2 : goal.slice_bounds-act-end-2
slice_bounds-act-end-2 c = part_length c.requires.0

pub act-requires : goal.act-requires
act-requires c = (c.requires.0.step, (c.requires.1, (omega (arith, part_length c.requires.0, c.requires.0.small), c.requires.0.sound)))

-- what is told of an instruction whose result is known
acted : {records values decls carriers after room room' : List ℕ} {n : ℕ} {l : List Entry} {r q : Result Moved Fault} → r ≡ q
    → ((v : StepAt records values decls carriers n) → ActTold v after l room room' r) → (v : StepAt records values decls carriers n) → ActTold v after l room room' q
acted {after = after} {room = room} {room' = room'} {l = l} e f v = subst (ActTold v after l room room') e (f v)

pub returns-in_err-moved : goal.returns-in_err-moved
returns-in_err-moved c = λ v.
    passed (TurnTold v _ _ _) _ c.from_residual.ensures.1 (turn_told v c.act.auto.carriers c.act.ensures (λ w. way_faults _ _ w c.in_err-moved.was))

pub onward-requires : goal.onward-requires
onward-requires c = (turn_way c.requires.0 c.act.auto.carriers (acted c.in_ok-moved.was c.act.ensures), c.requires.0.high)

pub returns : goal.returns
returns c = λ v. turn_told v c.act.auto.carriers (acted c.in_ok-moved.was c.act.ensures) c.onward.ensures
