-- `resolving::forget` meets its contract: token by token.
-- Assumes nothing.
use Rattle.resolving.specs.Laws.Marking.{Forgetting}
use Rattle.resolving.proofs.forget.Given as goal

abbrev pub invariant-loop-i : goal.invariant-loop-i
invariant-loop-i l = Forgetting l.initial.records l.records l.n l.i
