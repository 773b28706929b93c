-- `evaluation::transfers::store_all` meets its contract: a turn stores the next field.
-- Assumes nothing.
use native.Mathlib.Omega.{arith}
use Prim.Native.Nat.{◌-◌}
use Rattle.evaluation.specs.Laws.Stores.{storing, stored_all, part_fits, store_fits, stored_turn}
use Rattle.evaluation.proofs.transfers.store_all.Goals as goal

pub loop-k-init : goal.loop-k-init
loop-k-init c = λ s. storing s _

pub part-requires : goal.part-requires
part-requires c = part_fits _ _ (c.loop-k.invariant c.requires.0) c.loop-k-test.true c.get64-f.ensures

pub store-requires : goal.store-requires
store-requires c = store_fits _ _ (c.loop-k.invariant c.requires.0) c.loop-k-test.true c.get64-f.ensures

pub overflow_sub-rest : goal.overflow_sub-rest
overflow_sub-rest c = omega (arith, part_fits _ _ (c.loop-k.invariant c.requires.0) c.loop-k-test.true c.get64-f.ensures)

pub loop-k-preserved : goal.loop-k-preserved
loop-k-preserved c = λ s. stored_turn _ _ (c.loop-k.invariant s) c.loop-k-test.true c.get64-f.ensures (rw c.part.ensures at c.store.ensures)

pub returns : goal.returns
returns c = λ s. stored_all _ _ (c.loop-k.invariant s) c.loop-k-test.false
