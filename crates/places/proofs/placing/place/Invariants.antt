-- `places::placing::place` meets its contract: token by token.
-- Assumes nothing.
use Rattle.places.specs.Laws.Placing.{Going}
use Rattle.places.proofs.placing.place.Given as goal

abbrev pub invariant-loop-i : goal.invariant-loop-i
invariant-loop-i l = Going l.records l.initial.values l.values l.decls l.firsts l.n l.m l.i
