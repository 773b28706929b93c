-- `profiling::walks::clear_flags` meets its contract.
use Rattle.profiling.specs.Laws.Going.{Clearing}
use Rattle.profiling.proofs.walks.clear_flags.Given as goal

abbrev pub invariant-loop-k : goal.invariant-loop-k
invariant-loop-k l = Clearing l.initial.room l.room l.k
