-- `whole::walks::walk_key` meets its contract.
use Rattle.whole.specs.Laws.WalkKeys.{Walking}
use Rattle.whole.proofs.walks.walk_key.Given as goal

abbrev pub invariant-loop-i : goal.invariant-loop-i
invariant-loop-i l = Walking l.text l.records l.decls l.initial.room l.room l.m l.n l.from l.key l.depth l.base l.top l.i
