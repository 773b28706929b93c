-- `gathering::gathering::note_carriers` meets its contract.
use Rattle.gathering.specs.Laws.Filling.{Noting}
use Rattle.gathering.proofs.gathering.note_carriers.Given as goal

abbrev pub invariant-loop-k : goal.invariant-loop-k
invariant-loop-k l = Noting l.records l.decls l.initial.memo l.memo l.m l.n l.k
