-- `profiling::walks::walk` meets its contract.
use Rattle.profiling.specs.Laws.Going.{Going}
use Rattle.profiling.proofs.walks.walk.Given as goal

abbrev pub invariant-loop-i : goal.invariant-loop-i
invariant-loop-i l = Going l.records l.decls l.table l.initial.room l.room l.t l.name l.from l.s l.reading l.i
