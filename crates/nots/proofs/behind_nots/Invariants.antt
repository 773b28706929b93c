-- `nots::behind_nots` meets its contract: each turn passes a NOT, and the table ends.
-- Assumes nothing.
use Prim.Native.Nat.{◌-◌}
use lib.ListN.{length}
use Rattle.nots.specs.Nots.{OperandIn}
use Rattle.nots.specs.Laws.Nots.{Baring}
use Rattle.nots.proofs.behind_nots.Given as goal

abbrev pub invariant-loop-at : goal.invariant-loop-at
invariant-loop-at l = (v : OperandIn l.records l.i) → Baring v l.at

abbrev pub decreases-loop-at : goal.decreases-loop-at
decreases-loop-at l = length l.records - l.at
