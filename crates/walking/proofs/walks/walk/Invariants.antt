-- `walking::walks::walk` meets its contract.
use Rattle.walking.specs.Laws.Going.{Going}
use Rattle.walking.proofs.walks.walk.Given as goal

abbrev pub invariant-loop-i : goal.invariant-loop-i
invariant-loop-i l = Going l.records l.table l.initial.room l.room l.m l.n l.from l.s l.reading l.i
