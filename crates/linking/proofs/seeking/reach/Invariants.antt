-- `linking::seeking::reach` meets its contract: what is passed of the word is taken.
-- Assumes nothing.
use Prim.Native.Nat.{◌-◌}
use Rattle.rules.specs.Entries.{entries_in}
use Rattle.matching.specs.Room.{Reached}
use Rattle.linking.proofs.seeking.reach.Given as goal

abbrev pub invariant-loop-i : goal.invariant-loop-i
invariant-loop-i l = Reached (entries_in l.entries) l.room l.w l.i

abbrev pub decreases-loop-i : goal.decreases-loop-i
decreases-loop-i l = l.n - l.i
