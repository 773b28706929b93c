-- `passing::climbing::up_by` meets its contract: so many are still to be passed.
-- Assumes nothing.
use native.Mathlib.Omega.{arith}
use Prim.Native.Nat.{◌+◌, ◌-◌}
use mathlib.Core.Path.{◌≡◌, refl, ◌∙◌}
use Rattle.passing.specs.Laws.Counting.{up_none, up_one}
use Rattle.passing.proofs.climbing.up_by.Goals as goal

pub loop-k-init : goal.loop-k-init
loop-k-init c = let e : c.args.count - 0 ≡ c.args.count = omega arith in rw e refl

pub loop-k-preserved : goal.loop-k-preserved
loop-k-preserved c =
    let e : c.args.count - (c.loop-k._k + 1) ≡ c.args.count - c.loop-k._k - 1 = omega arith in
    rw e (up_one _ _ _ (omega arith) c.up_at-at.ensures ∙ c.loop-k.invariant)

pub returns : goal.returns
returns c = up_none _ _ _ (omega arith) ∙ c.loop-k.invariant
