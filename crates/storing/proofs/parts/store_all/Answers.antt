-- `storing::parts::store_all` meets its contract: a turn stores and tells the next part.
-- Assumes nothing.
use native.Mathlib.Omega.{arith}
use Prim.Native.Nat.{◌-◌}
use mathlib.Core.Path.{refl, ◌∙◌}
use Rattle.evaluation.specs.Laws.Stores.{part_fits, store_fits}
use Rattle.storing.specs.Laws.Parts.{part_small, telling, told_turn, all_told}
use Rattle.storing.proofs.parts.store_all.Goals as goal

pub loop-k-init : goal.loop-k-init
loop-k-init c = ((λ s. telling s _ _ _ _ c.requires.1.1.1), refl)

pub store_part-x-requires : goal.store_part-x-requires
store_part-x-requires c =
    let t = (c.loop-k.invariant.0 c.requires.0).stored in
    (part_fits _ _ t c.loop-k-test.true c.get64-f.ensures, store_fits _ _ t c.loop-k-test.true c.get64-f.ensures)

pub tell_part-requires : goal.tell_part-requires
tell_part-requires c =
    let t = c.loop-k.invariant.0 c.requires.0 in
    let fits = store_fits _ _ t.stored c.loop-k-test.true c.get64-f.ensures in
    (t.tells.sound, part_small c.store_part-x.ensures fits.0 (omega (arith, t.stored.long, c.requires.1.1.0)))

pub overflow_sub-rest : goal.overflow_sub-rest
overflow_sub-rest c =
    let t = (c.loop-k.invariant.0 c.requires.0).stored in
    omega (arith, part_fits _ _ t c.loop-k-test.true c.get64-f.ensures)

pub loop-k-preserved : goal.loop-k-preserved
loop-k-preserved c = (
  (λ s. told_turn s _ _ _ _ (c.loop-k.invariant.0 s) c.loop-k-test.true c.get64-f.ensures c.store_part-x.ensures c.tell_part.ensures),
  c.tell_part.auto.room ∙ c.loop-k.invariant.1,
)

pub returns : goal.returns
returns c = λ s. all_told s _ _ _ _ (c.loop-k.invariant.0 s) c.loop-k-test.false
