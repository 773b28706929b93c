-- `blocks::bytes::copy` meets its contract: the bytes passed are copied, and the others are as they were.
-- Assumes nothing.
use borrow.Author.Rules.{rules}
use Rattle.blocks.specs.Laws.Loops.{more_copied}
use Rattle.blocks.proofs.bytes.copy.Goals as goal

pub loop-i-preserved : goal.loop-i-preserved
loop-i-preserved c = search (rules, more_copied)
