-- `pair_turns::words::take_out` meets its contract: the first i words are taken out.
-- Assumes nothing.
use Prim.Native.Nat.{◌-◌}
use mathlib.Core.Path.{refl, ◌∙◌}
use native.Mathlib.Omega.{arith}
use borrow.Author.Rules.{rules}
use Rattle.cells.proofs.Laws.{put_size}
use Rattle.pair_turns.specs.Laws.Words.{none_out, out_more, all_out}
use Rattle.pair_turns.proofs.words.take_out.Goals as goal

pub loop-i-init : goal.loop-i-init
loop-i-init c = (search rules, (refl, none_out))

pub get64-requires : goal.get64-requires
get64-requires c = omega (arith, c.requires.0.below c.loop-i.i c.loop-i-test.true, c.get16.ensures)

pub loop-i-preserved : goal.loop-i-preserved
loop-i-preserved c = (omega arith, (put_size _ _ _ _ _ c.put64.ensures ∙ c.loop-i.invariant.1.0, out_more c.loop-i.invariant.1.1 c.get16.ensures c.get64.ensures (omega (arith, c.get64.type_inv)) c.put64.ensures (omega arith)))

pub returns : goal.returns
returns c = all_out c.requires.0 c.loop-i.invariant.1.1 c.loop-i-test.false
