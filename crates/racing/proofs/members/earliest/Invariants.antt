-- `racing::members::earliest` meets its contract.
use Prim.Native.Nat.{◌-◌}
use Rattle.racing.specs.Laws.Members.{Choosing}
use Rattle.racing.proofs.members.earliest.Given as goal

abbrev pub invariant-loop-i : goal.invariant-loop-i
invariant-loop-i l = Choosing l.records l.decls l.memo l.m l.n l.from l.later l.own.reads.w l.own.writes.w l.i

abbrev pub decreases-loop-i : goal.decreases-loop-i
decreases-loop-i l = l.n - l.i
