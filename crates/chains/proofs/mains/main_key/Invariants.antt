-- `chains::mains::main_key` meets its contract.
use Rattle.chains.specs.Laws.Mains.{Seeing}
use Rattle.chains.proofs.mains.main_key.Given as goal

abbrev pub invariant-loop-k : goal.invariant-loop-k
invariant-loop-k l = Seeing l.records l.decls l.m l.n l.key l.seen l.k
