-- `whole::walks::groups_key` meets its contract.
use Rattle.whole.specs.Laws.WalkKeys.{Bodies}
use Rattle.whole.proofs.walks.groups_key.Given as goal

abbrev pub invariant-loop-k : goal.invariant-loop-k
invariant-loop-k l = Bodies l.text l.records l.decls l.initial.room l.room l.m l.n l.key l.k
