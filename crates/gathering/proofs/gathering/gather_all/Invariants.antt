-- `gathering::gathering::gather_all` meets its contract.
use Rattle.gathering.specs.Laws.Filling.{Collecting}
use Rattle.gathering.proofs.gathering.gather_all.Given as goal

abbrev pub invariant-loop-k : goal.invariant-loop-k
invariant-loop-k l = Collecting l.records l.decls l.initial.memo l.memo l.m l.n l.k
