-- `passing::meeting::open_all` meets its contract: so many are left to tell.
-- Assumes nothing.
use borrow.Author.Rules.{rules}
use native.Mathlib.Omega.{arith}
use Prim.Native.Nat.{◌+◌, ◌-◌}
use mathlib.Core.Path.{◌≡◌, refl}
use Rattle.traces.specs.Cited.Events.{opens}
use Rattle.passing.specs.Laws.Telling.{all_left, one_of_many, none_of_many, one_opens, still_fits}
use Rattle.passing.proofs.meeting.open_all.Goals as goal

pub loop-k-init : goal.loop-k-init
loop-k-init c = let e : c.args.count - 0 ≡ c.args.count = omega arith in (rw e (all_left _ _), refl)

pub tell_opens-requires : goal.tell_opens-requires
tell_opens-requires c =
    (c.requires.0, one_opens _ (omega arith) (still_fits c.loop-k.invariant.0 c.requires.1))

pub loop-k-preserved : goal.loop-k-preserved
loop-k-preserved c =
    let e : c.args.count - (c.loop-k._k + 1) ≡ c.args.count - c.loop-k._k - 1 = omega arith in
    (rw e (one_of_many _ opens (omega arith) c.loop-k.invariant.0 c.tell_opens.ensures), search rules)

pub returns : goal.returns
returns c = none_of_many _ opens (omega arith) c.loop-k.invariant.0
