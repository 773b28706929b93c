-- `starts::start` meets its contract: no word of the declarations before the k-th is long.
-- Assumes nothing.
use Rattle.starts.proofs.Walking.{Walked}
use Rattle.starts.proofs.start.Given as goal

abbrev pub invariant-loop-k : goal.invariant-loop-k
invariant-loop-k l = Walked l.records l.values l.decls l.m l.carriers l.at l.k
