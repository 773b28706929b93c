-- `chains::chains::chain_key` meets its contract.
use Rattle.chains.specs.Laws.Least.{Chained}
use Rattle.chains.proofs.chains.chain_key.Given as goal

abbrev pub invariant-loop-k : goal.invariant-loop-k
invariant-loop-k l = Chained l.records l.decls l.m l.n l.key l.k
