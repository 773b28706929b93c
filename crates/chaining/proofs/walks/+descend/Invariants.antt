-- `chaining::walks::descend` meets its contract: the levels that are left fall.
use Prim.Native.Nat.{◌-◌}
use Rattle.chaining.proofs.walks.+descend.Given as goal

abbrev pub decreases-descend : goal.decreases-descend
decreases-descend l = 16 - l.k
