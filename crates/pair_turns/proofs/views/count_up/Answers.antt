-- `pair_turns::views::count_up` meets its contract: the cells up to j count up.
-- Assumes nothing.
use Prim.Native.Nat.{◌-◌}
use mathlib.Core.Path.{refl, ◌∙◌}
use native.Mathlib.Omega.{arith}
use borrow.Author.Rules.{rules}
use Rattle.cells.proofs.Laws.{put_size}
use Rattle.pair_turns.specs.Laws.Views.{counted_none, counted_more, counted_all}
use Rattle.pair_turns.proofs.views.count_up.Goals as goal

pub loop-j-init : goal.loop-j-init
loop-j-init c = (search rules, (refl, counted_none _ _ _))

pub loop-j-preserved : goal.loop-j-preserved
loop-j-preserved c = (omega arith, (put_size _ _ _ _ _ c.put16.ensures ∙ c.loop-j.invariant.1.0, counted_more c.loop-j.invariant.1.1 c.put16.ensures (omega arith) (omega arith)))

pub returns : goal.returns
returns c = counted_all c.loop-j.invariant.1.1 c.loop-j-test.false
