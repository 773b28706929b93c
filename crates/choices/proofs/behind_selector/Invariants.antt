-- `choices::behind_selector` meets its contract: no token passed is `:=`.
-- Assumes nothing.
use Prim.Native.Nat.{◌-◌}
use lib.ListN.{length}
use Rattle.choices.specs.Choices.{BehindView}
use Rattle.choices.specs.Laws.Starts.{Behind}
use Rattle.choices.proofs.behind_selector.Given as goal

abbrev pub invariant-loop-i : goal.invariant-loop-i
invariant-loop-i l = (v : BehindView l.records l.at) → Behind v l.i

abbrev pub decreases-loop-i : goal.decreases-loop-i
decreases-loop-i l = length l.records - l.i
