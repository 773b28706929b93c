-- `blocks::blocks::check_of` meets its contract: what is summed up and what is left make the check.
-- Assumes nothing.
use Rattle.blocks.specs.Laws.Loops.{Summed}
use Rattle.blocks.proofs.blocks.check_of.Given as goal

abbrev pub invariant-loop-i : goal.invariant-loop-i
invariant-loop-i l = Summed l.front l.sum l.i
