-- `resolving::resolve` meets its contract: token by token.
-- Assumes nothing.
use Rattle.resolving.specs.Laws.Marking.{Resolving}
use Rattle.resolving.proofs.resolve.Given as goal

abbrev pub invariant-loop-i : goal.invariant-loop-i
invariant-loop-i l = Resolving l.initial.records l.records l.n l.i
