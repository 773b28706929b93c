-- `scopes::labels::listed` meets its contract.
use Rattle.scopes.specs.Laws.Labels.{Seeking}
use Rattle.scopes.proofs.labels.listed.Given as goal

abbrev pub invariant-loop-j : goal.invariant-loop-j
invariant-loop-j l = Seeking l.text l.records l.labels l.n l.base l.top l.name l.j
