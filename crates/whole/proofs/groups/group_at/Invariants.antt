-- `whole::groups::group_at` meets its contract.
use Prim.Native.Nat.{◌-◌}
use Rattle.whole.specs.Laws.GroupKeys.{Comparing}
use Rattle.whole.proofs.groups.group_at.Given as goal

abbrev pub invariant-loop-before : goal.invariant-loop-before
invariant-loop-before l = Comparing l.records l.decls l.memo l.m l.n l.from l.before.reads.w l.before.writes.w l.key l.i

abbrev pub decreases-loop-before : goal.decreases-loop-before
decreases-loop-before l = l.n - l.i
