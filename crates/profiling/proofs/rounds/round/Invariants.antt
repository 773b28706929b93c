-- `profiling::rounds::round` meets its contract.
use Rattle.profiling.specs.Laws.Levels.{Parts}
use Rattle.profiling.proofs.rounds.round.Given as goal

abbrev pub invariant-loop-k : goal.invariant-loop-k
invariant-loop-k l = Parts l.records l.decls l.table l.initial.next l.initial.room l.next l.room l.t l.k
