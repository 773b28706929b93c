-- `profiling::rounds::blank` meets its contract.
use Rattle.profiling.specs.Laws.Levels.{Blanking}
use Rattle.profiling.proofs.rounds.blank.Given as goal

abbrev pub invariant-loop-k : goal.invariant-loop-k
invariant-loop-k l = Blanking l.initial.table l.table l.k
