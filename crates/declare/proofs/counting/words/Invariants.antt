-- `declare::counting::words` meets its contract: what is counted and what is left make the total.
-- Assumes nothing.
use Rattle.declare.proofs.Totals.{Summed}
use Rattle.declare.proofs.counting.words.Given as goal

abbrev pub invariant-loop-k : goal.invariant-loop-k
invariant-loop-k l = Summed l.records l.values l.decls l.m l.total l.k
