-- `starts::first_long` meets its contract: the words before `i` have no bit above their length.
-- Assumes nothing.
use Prim.Native.Nat.{◌+◌, ◌≤◌}
use Rattle.starts.specs.Sought.{Sought}
use Rattle.starts.proofs.first_long.Given as goal

abbrev pub invariant-loop-i : goal.invariant-loop-i
invariant-loop-i l = Sought l.carriers l.at l.i (l.last + 1) l.i × (l.i ≤ l.end)
