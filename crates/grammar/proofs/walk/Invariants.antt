-- `grammar::walk` meets its contract: each arm of the loop is a turn of the rows' recogniser.
-- Assumes nothing.
use Prim.Native.Nat.{◌-◌}
use Rattle.grammar.proofs.Turns.{Reached}
use Rattle.grammar.proofs.walk.Given as goal

abbrev pub invariant-loop-at : goal.invariant-loop-at
invariant-loop-at l = Reached l.records l.n l.stack l.states l.at

abbrev pub decreases-loop-at : goal.decreases-loop-at
decreases-loop-at l = l.n - l.at
