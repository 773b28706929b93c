-- `chains::chains::next_level` meets its contract.
use Rattle.chains.specs.Laws.Chains.{Rising}
use Rattle.chains.proofs.chains.next_level.Given as goal

abbrev pub invariant-loop-k : goal.invariant-loop-k
invariant-loop-k l = Rising l.records l.decls l.m l.n l.level.w l.all l.set.w l.k
