-- `profiling::rounds::begin_behind` meets its contract.
use Rattle.profiling.specs.Laws.Levels.{Seeking}
use Rattle.profiling.proofs.rounds.begin_behind.Given as goal

abbrev pub invariant-loop-i : goal.invariant-loop-i
invariant-loop-i l = Seeking l.records l.n l.name l.i
