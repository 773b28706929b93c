-- `declare::finding::find` meets its contract: each turn writes one declaration, and the rest of the list is that of the tree that is left.
-- Assumes nothing.
use Prim.Native.Nat.{◌-◌}
use lib.ListN.{length}
use Rattle.declare.proofs.Gathering.{Gathered}
use Rattle.declare.proofs.finding.find.Given as goal

abbrev pub invariant-loop-i : goal.invariant-loop-i
invariant-loop-i l = Gathered l.records l.initial.decls l.decls l.i l.m

abbrev pub decreases-loop-i : goal.decreases-loop-i
decreases-loop-i l = length l.records - l.i
