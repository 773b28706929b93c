-- `marking::walks::walk` meets its contract.
use Rattle.marking.specs.Laws.Going.{Going}
use Rattle.marking.proofs.walks.walk.Given as goal

abbrev pub invariant-loop-i : goal.invariant-loop-i
invariant-loop-i l = Going l.records l.initial.cells l.initial.room l.cells l.room l.n l.s l.i
