-- `gathering::touches::passed` meets its contract: what is heard so far and what is left to hear stay the events of the action, and what is left comes to the same end.
use Rattle.gathering.specs.Laws.Steps.{Passing}
use Rattle.gathering.proofs.touches.passed.Given as goal

abbrev pub invariant-loop-at : goal.invariant-loop-at
invariant-loop-at l = Passing l.records l.decls l.memo l.m l.n l.from l.t.reads.w l.t.writes.w l.t.stops l.d l.at_mode l.at
