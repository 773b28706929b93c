-- `ways::labels::aim` meets its contract: from the innermost label outwards.
-- Assumes nothing.
use Rattle.ways.specs.Stack.{Looking}
use Rattle.ways.proofs.labels.aim.Given as goal

abbrev pub invariant-loop-j : goal.invariant-loop-j
invariant-loop-j l = Looking l.text l.records l.labels l.n l.i l.j
