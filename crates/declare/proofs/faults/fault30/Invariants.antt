-- `declare::faults::fault30` meets its contract: the faults that are left are all of them.
-- Assumes nothing.
use Rattle.declare.proofs.Places.{Judged}
use Rattle.declare.proofs.faults.fault30.Given as goal

abbrev pub invariant-loop-k : goal.invariant-loop-k
invariant-loop-k l = Judged l.text l.records l.values l.decls l.m l.words l.k
