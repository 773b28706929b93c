-- `declare::finding::end_of` meets its contract: the tokens that are left, with the brackets that are open, end as the declaration does.
-- Assumes nothing.
use Prim.Native.Nat.{◌-◌}
use lib.ListN.{length}
use Rattle.declare.proofs.Starts.{Inside}
use Rattle.declare.proofs.finding.end_of.Given as goal

abbrev pub invariant-loop-p : goal.invariant-loop-p
invariant-loop-p l = Inside l.records l.p l.i l.depth

abbrev pub decreases-loop-p : goal.decreases-loop-p
decreases-loop-p l = length l.records - l.i
