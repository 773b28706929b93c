-- `racing::members::race_in` meets its contract.
use Prim.Native.Nat.{◌-◌}
use Rattle.racing.specs.Laws.Members.{Searching}
use Rattle.racing.proofs.members.race_in.Given as goal

abbrev pub invariant-loop-m : goal.invariant-loop-m
invariant-loop-m l = Searching l.records l.decls l.memo l.m l.n l.from l.place l.i

abbrev pub decreases-loop-m : goal.decreases-loop-m
decreases-loop-m l = l.n - l.i
