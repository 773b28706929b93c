-- `naming::names::number_of` meets its contract: none of the declarations passed has the name.
-- Assumes nothing.
use Rattle.naming.specs.Laws.Names.{Seeking}
use Rattle.naming.proofs.names.number_of.Given as goal

abbrev pub invariant-loop-k : goal.invariant-loop-k
invariant-loop-k l = Seeking l.text l.records l.decls l.name l.m l.n l.k
