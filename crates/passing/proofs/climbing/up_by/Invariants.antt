-- `passing::climbing::up_by` meets its contract: so many are still to be passed.
-- Assumes nothing.
use Prim.Native.Nat.{◌-◌}
use mathlib.Core.Path.{◌≡◌}
use Rattle.members.specs.Cells.{cells_in}
use Rattle.passing.specs.Climbing.{up_by}
use Rattle.passing.proofs.climbing.up_by.Given as goal

abbrev pub invariant-loop-k : goal.invariant-loop-k
invariant-loop-k l = up_by (cells_in l.cells l.n) (l.count - l._k) l.at ≡ up_by (cells_in l.cells l.n) l.count l.x
