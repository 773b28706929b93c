-- `chaining::firsts::first_in` meets its contract.
use Prim.Native.Nat.{◌-◌}
use Rattle.chaining.specs.Laws.Firsts.{Choosing}
use Rattle.chaining.proofs.firsts.first_in.Given as goal

abbrev pub invariant-loop-level : goal.invariant-loop-level
invariant-loop-level l = Choosing l.records l.decls l.m l.n l.from l.level.w l.all l.at l.depth l.mode

abbrev pub decreases-loop-level : goal.decreases-loop-level
decreases-loop-level l = l.n - l.at
