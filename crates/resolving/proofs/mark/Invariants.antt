-- `resolving::mark` meets its contract: what is marked is right by the declarations that are passed.
-- Assumes nothing.
use Rattle.resolving.specs.Laws.Marking.{MarkedTo}
use Rattle.resolving.proofs.mark.Given as goal

abbrev pub invariant-loop-k : goal.invariant-loop-k
invariant-loop-k l = MarkedTo l.initial.records l.records l.decls l.m l.k
