-- `resuming::mains::main_number` meets its contract: none of the declarations passed is MAIN's.
-- Assumes nothing.
use Rattle.resuming.specs.Laws.Mains.{Searching}
use Rattle.resuming.proofs.mains.main_number.Given as goal

abbrev pub invariant-loop-k : goal.invariant-loop-k
invariant-loop-k l = Searching l.records l.decls l.m l.n l.k
