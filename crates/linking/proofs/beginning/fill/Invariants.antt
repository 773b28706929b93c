-- `linking::beginning::fill` meets its contract: the words passed have their number.
-- Assumes nothing.
use Prim.Native.Nat.{◌≤◌}
use Rattle.rules.specs.Limits.{most_words}
use Rattle.matching.specs.Room.{Filled}
use Rattle.linking.proofs.beginning.fill.Given as goal

abbrev pub invariant-loop-w : goal.invariant-loop-w
invariant-loop-w l = Filled l.initial.room l.room l.v l.w × (l.w ≤ most_words)
