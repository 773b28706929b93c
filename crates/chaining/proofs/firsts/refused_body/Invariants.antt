-- `chaining::firsts::refused_body` meets its contract.
use Rattle.chaining.specs.Laws.Firsts.{Seeking}
use Rattle.chaining.proofs.firsts.refused_body.Given as goal

abbrev pub invariant-loop-k : goal.invariant-loop-k
invariant-loop-k l = Seeking l.records l.decls l.m l.n l.place l.k
