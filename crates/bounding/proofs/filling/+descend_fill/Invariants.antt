-- `bounding::filling::fill` and `descend` meet their contracts: the remaining length of the chain falls at each body.
use Prim.Native.Nat.{◌+◌, ◌-◌, ◌*◌}
use Rattle.bounding.specs.Laws.Filling.{Descending}
use Rattle.bounding.proofs.filling.+descend_fill.Given as goal

abbrev pub decreases-descend : goal.decreases-descend
decreases-descend l = 2 * l.left + 1

abbrev pub decreases-fill : goal.decreases-fill
decreases-fill l = 2 * l.left

abbrev pub invariant-descend-loop-call : goal.invariant-descend-loop-call
invariant-descend-loop-call l = Descending l.records l.decls l.initial.table l.table l.initial.room l.room l.m l.n l.from l.left l.at l.depth l.mode

abbrev pub decreases-descend-loop-call : goal.decreases-descend-loop-call
decreases-descend-loop-call l = l.n - l.at
