-- `ways::scans::seek` meets its contract: what is left to read comes to the same place.
-- Assumes nothing.
use Prim.Native.Nat.{◌-◌}
use lib.ListN.{length}
use Rattle.ways.specs.Laws.Seeking.{Looking}
use Rattle.ways.proofs.scans.seek.Given as goal

abbrev pub invariant-loop-from : goal.invariant-loop-from
invariant-loop-from l = Looking l.records l.from l.goal l.d l.i

abbrev pub decreases-loop-from : goal.decreases-loop-from
decreases-loop-from l = length l.records - l.i
