-- `passing::meeting::meet` meets its contract: the rest of the way up is left to tell.
-- Assumes nothing.
use borrow.Author.Rules.{rules}
use native.Mathlib.Omega.{arith}
use Prim.Native.Nat.{◌+◌, ◌-◌}
use mathlib.Core.Path.{◌≡◌, refl}
use Rattle.traces.specs.Cited.Events.{turns, closes}
use Rattle.passing.specs.Laws.Telling.{all_left, left_as, one_told, all_told, still_fits}
use Rattle.passing.specs.Laws.Meeting.{all_met, same_met, next_met, first_met}
use Rattle.passing.proofs.meeting.meet.Goals as goal

pub loop-k-init : goal.loop-k-init
loop-k-init c = let e : c.args.depth - 0 ≡ c.args.depth = omega arith in (rw e (all_left _ _), refl, omega (arith, c.requires.1))

pub open_all-requires : goal.open_all-requires
open_all-requires c =
    (c.requires.2.0, still_fits (left_as (same_met _ _ _ _ _ (omega arith) c.if-x-y.true) c.loop-k.invariant.0) c.requires.2.1)

pub returns-then-x-y : goal.returns-then-x-y
returns-then-x-y c = all_told (left_as (same_met _ _ _ _ _ (omega arith) c.if-x-y.true) c.loop-k.invariant.0) c.open_all.ensures

pub tell_turns-requires : goal.tell_turns-requires
tell_turns-requires c = (c.requires.2.0, c.loop-k.invariant.0.sound _ c.requires.2.1.sound)

pub open_all-requires-then-rank_at-ge-SECOND : goal.open_all-requires-then-rank_at-ge-SECOND
open_all-requires-then-rank_at-ge-SECOND c =
    let n = left_as (next_met _ _ _ _ _ (omega arith) c.if-x-y.false c.rank_at.ensures (omega arith)) c.loop-k.invariant.0 in
    (c.requires.2.0, still_fits (one_told turns n c.tell_turns.ensures) c.requires.2.1)

pub returns-then-rank_at-ge-SECOND : goal.returns-then-rank_at-ge-SECOND
returns-then-rank_at-ge-SECOND c =
    let n = left_as (next_met _ _ _ _ _ (omega arith) c.if-x-y.false c.rank_at.ensures (omega arith)) c.loop-k.invariant.0 in
    all_told (one_told turns n c.tell_turns.ensures) c.open_all-then-rank_at-ge-SECOND.ensures

pub tell_closes-requires : goal.tell_closes-requires
tell_closes-requires c = (c.requires.2.0, c.loop-k.invariant.0.sound _ c.requires.2.1.sound)

pub loop-k-preserved : goal.loop-k-preserved
loop-k-preserved c =
    let n =
    left_as (first_met _ _ _ _ _ (omega arith) c.if-x-y.false c.rank_at.ensures (omega arith) c.up_at-x.ensures c.up_at-y.ensures)
    c.loop-k.invariant.0
    in
    let e : c.args.depth - (c.loop-k._k + 1) ≡ c.args.depth - c.loop-k._k - 1 = omega arith in
    (rw e (one_told closes n c.tell_closes.ensures), search rules, omega arith)

pub open_all-requires-2 : goal.open_all-requires-2
open_all-requires-2 c =
    (c.requires.2.0, still_fits (left_as (all_met _ _ _ _ _ (omega arith)) c.loop-k.invariant.0) c.requires.2.1)

pub returns : goal.returns
returns c = all_told (left_as (all_met _ _ _ _ _ (omega arith)) c.loop-k.invariant.0) c.open_all-2.ensures
