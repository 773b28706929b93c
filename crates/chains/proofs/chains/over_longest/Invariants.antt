-- `chains::chains::over_longest` meets its contract.
use Rattle.chains.specs.Laws.Least.{Climbing}
use Rattle.chains.proofs.chains.over_longest.Given as goal

abbrev pub invariant-loop-k : goal.invariant-loop-k
invariant-loop-k l = Climbing l.records l.decls l.m l.n l.level.w l._k
