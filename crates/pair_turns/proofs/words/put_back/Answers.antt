-- `pair_turns::words::put_back` meets its contract: the first i words are back.
-- Assumes nothing.
use Prim.Native.Nat.{◌-◌}
use native.Mathlib.Omega.{arith}
use Rattle.pair_turns.specs.Laws.Words.{none_back, back_more, all_back}
use Rattle.pair_turns.proofs.words.put_back.Goals as goal

pub loop-i-init : goal.loop-i-init
loop-i-init c = none_back

pub put64-requires : goal.put64-requires
put64-requires c = omega (arith, c.requires.0.below c.loop-i.i c.loop-i-test.true, c.get16.ensures, c.loop-i.invariant.long)

pub loop-i-preserved : goal.loop-i-preserved
loop-i-preserved c = back_more c.loop-i.invariant c.loop-i-test.true c.requires.0 c.get16.ensures c.get64.ensures (omega (arith, c.get64.type_inv)) c.put64.ensures

pub returns : goal.returns
returns c = all_back c.loop-i.invariant c.loop-i-test.false
