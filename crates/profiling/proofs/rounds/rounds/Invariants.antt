-- `profiling::rounds::rounds` meets its contract.
use Prim.Native.Nat.{◌*◌}
use Rattle.profiling.specs.Laws.Levels.{Turning}
use Rattle.profiling.proofs.rounds.rounds.Given as goal

abbrev pub invariant-loop-k : goal.invariant-loop-k
invariant-loop-k l = Turning l.records l.decls l.initial.table l.initial.next l.initial.room l.table l.next l.room l.t (2 * l._k)
