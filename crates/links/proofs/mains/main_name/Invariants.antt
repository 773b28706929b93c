-- `links::mains::main_name` meets its contract: the first declaration with MAIN before its name.
-- Assumes nothing.
use Rattle.links.specs.Laws.Mains.{Searching}
use Rattle.links.proofs.mains.main_name.Given as goal

abbrev pub invariant-loop-k : goal.invariant-loop-k
invariant-loop-k l = Searching l.records l.decls l.m l.k
