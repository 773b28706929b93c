-- `racing::groups::race` meets its contract.
use Rattle.racing.specs.Laws.Groups.{Looking}
use Rattle.racing.proofs.groups.race.Given as goal

abbrev pub invariant-loop-i : goal.invariant-loop-i
invariant-loop-i l = Looking l.records l.decls l.memo l.m l.n l.place l.i
