-- `pair_turns::taking::take` meets its contract: the rest of the turns comes to what all come to.
-- Assumes nothing.
use Prim.Native.Nat.{◌-◌}
use mathlib.Core.Path.{refl}
use native.Mathlib.Omega.{arith}
use borrow.Author.Rules.{rules}
use Rattle.pair_turns.specs.Laws.Turns.{resized}
use Rattle.pair_turns.specs.Laws.Taking.{none_taken, turn_fits, done_more, stopped_more, last_paused, last_faulted, all_taken}
use Rattle.pair_turns.proofs.taking.take.Goals as goal
use Rattle.pair_turns.proofs.taking.take.Goals.{in-Done, in-Stopped}

pub loop-next-init : goal.loop-next-init
loop-next-init c = (search rules, (refl, (refl, (refl, λ v. none_taken _ _ _ _ _))))

pub turn-requires : goal.turn-requires
turn-requires c =
    record { sides = resized c.requires.sides c.loop-next.invariant.1.0; w1_in_bounds = (omega (arith, c.requires.w1_in_bounds.0, c.loop-next.invariant.1.1.0), omega (arith, c.requires.w1_in_bounds.1, c.loop-next.invariant.1.1.1.0)) }

pub overflow_add-result : goal.overflow_add-result
overflow_add-result c =
    omega (arith, c.loop-next.invariant.0, turn_fits (c.loop-next.invariant.1.1.1.1 c.requires.sides) c.loop-next-test.true refl (c.turn.ensures (resized c.requires.sides c.loop-next.invariant.1.0)) c.in-Paused.is)

pub returns-in-Paused : goal.returns-in-Paused
returns-in-Paused c =
    λ v. last_paused (c.loop-next.invariant.1.1.1.1 v) c.loop-next-test.true refl (c.turn.ensures (resized v c.loop-next.invariant.1.0)) c.in-Paused.is

pub overflow_add-result-in-Fault : goal.overflow_add-result-in-Fault
overflow_add-result-in-Fault c =
    omega (arith, c.loop-next.invariant.0, turn_fits (c.loop-next.invariant.1.1.1.1 c.requires.sides) c.loop-next-test.true refl (c.turn.ensures (resized c.requires.sides c.loop-next.invariant.1.0)) c.in-Fault.is)

pub returns-in-Fault : goal.returns-in-Fault
returns-in-Fault c =
    λ v. last_faulted (c.loop-next.invariant.1.1.1.1 v) c.loop-next-test.true refl (c.turn.ensures (resized v c.loop-next.invariant.1.0)) c.in-Fault.is

pub overflow_sub-left : goal.overflow_sub-left
overflow_sub-left c =
    turn_fits (c.loop-next.invariant.1.1.1.1 c.requires.sides) c.loop-next-test.true refl (c.turn.ensures (resized c.requires.sides c.loop-next.invariant.1.0)) c.in-Done.is

pub overflow_sub-left-in-Stopped : goal.overflow_sub-left-in-Stopped
overflow_sub-left-in-Stopped c =
    turn_fits (c.loop-next.invariant.1.1.1.1 c.requires.sides) c.loop-next-test.true refl (c.turn.ensures (resized c.requires.sides c.loop-next.invariant.1.0)) c.in-Stopped.is

pub loop-next-preserved : goal.loop-next-preserved
loop-next-preserved c = elim c.match-turn.branch [
  | in-Done w ↦ (
    omega (arith, w.left-is, c.loop-next.invariant.0),
    (
      omega (arith, c.turn.auto.carriers, c.loop-next.invariant.1.0),
      (
        omega (arith, c.turn.auto.own, c.loop-next.invariant.1.1.0),
        (
          omega (arith, c.turn.auto.scratch, c.loop-next.invariant.1.1.1.0),
          λ v. rw (w.left-is, w.stopped-is)
              (done_more (c.loop-next.invariant.1.1.1.1 v) c.loop-next-test.true refl (c.turn.ensures (resized v c.loop-next.invariant.1.0)) w.in-Done.is c.loop-next.invariant.0),
        ),
      ),
    ),
  )
  | in-Stopped w ↦ (
    omega (arith, w.left-is, c.loop-next.invariant.0),
    (
      omega (arith, c.turn.auto.carriers, c.loop-next.invariant.1.0),
      (
        omega (arith, c.turn.auto.own, c.loop-next.invariant.1.1.0),
        (
          omega (arith, c.turn.auto.scratch, c.loop-next.invariant.1.1.1.0),
          λ v. rw (w.left-is, w.stopped-is)
              (stopped_more (c.loop-next.invariant.1.1.1.1 v) c.loop-next-test.true refl (c.turn.ensures (resized v c.loop-next.invariant.1.0)) w.in-Stopped.is c.loop-next.invariant.0),
        ),
      ),
    ),
  )
]

pub returns : goal.returns
returns c = λ v. all_taken (c.loop-next.invariant.1.1.1.1 v) c.loop-next-test.false c.well.ensures
