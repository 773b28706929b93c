-- `passing::meeting::close_all` meets its contract: so many are left to tell.
-- Assumes nothing.
use borrow.Author.Rules.{rules}
use native.Mathlib.Omega.{arith}
use Prim.Native.Nat.{◌+◌, ◌-◌}
use mathlib.Core.Path.{◌≡◌, refl}
use Rattle.traces.specs.Cited.Events.{closes}
use Rattle.passing.specs.Laws.Telling.{all_left, one_of_many, none_of_many}
use Rattle.passing.proofs.meeting.close_all.Goals as goal

pub loop-k-init : goal.loop-k-init
loop-k-init c = let e : c.args.count - 0 ≡ c.args.count = omega arith in (rw e (all_left _ _), refl)

pub tell_closes-requires : goal.tell_closes-requires
tell_closes-requires c = (c.requires.0, c.loop-k.invariant.0.sound _ c.requires.1)

pub loop-k-preserved : goal.loop-k-preserved
loop-k-preserved c =
    let e : c.args.count - (c.loop-k._k + 1) ≡ c.args.count - c.loop-k._k - 1 = omega arith in
    (rw e (one_of_many _ closes (omega arith) c.loop-k.invariant.0 c.tell_closes.ensures), search rules)

pub returns : goal.returns
returns c = none_of_many _ closes (omega arith) c.loop-k.invariant.0
