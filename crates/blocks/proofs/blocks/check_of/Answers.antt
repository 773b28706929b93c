-- `blocks::blocks::check_of` meets its contract: what is summed up and what is left make the check.
-- Assumes nothing.
use borrow.Author.Rules.{rules}
use native.Mathlib.Omega.{arith}
use Rattle.blocks.specs.Laws.Loops.{more_summed, all_summed}
use Rattle.blocks.proofs.blocks.check_of.Goals as goal

pub loop-i-preserved : goal.loop-i-preserved
loop-i-preserved c = search (rules, more_summed)

pub returns : goal.returns
returns c = all_summed c.loop-i.invariant (omega arith) c.requires
