-- `naming::names::is_name` meets its contract: what is left of the word and of the name is the same iff the two are.
-- Assumes nothing.
use Rattle.naming.specs.Laws.Bytes.{Comparing}
use Rattle.naming.proofs.names.is_name.Given as goal

abbrev pub invariant-loop-k : goal.invariant-loop-k
invariant-loop-k l = Comparing l.text l.name l.p l.n l.k
