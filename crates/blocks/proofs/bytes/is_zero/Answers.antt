-- `blocks::bytes::is_zero` meets its contract: the bytes passed are 0, so the others decide.
-- Assumes nothing.
use borrow.Author.Rules.{rules}
use Rattle.blocks.specs.Laws.Loops.{more_zero, not_zero, all_zero_lem}
use Rattle.blocks.proofs.bytes.is_zero.Goals as goal

pub returns-then-byte-ne0 : goal.returns-then-byte-ne0
returns-then-byte-ne0 c = search (rules, not_zero)

pub loop-byte-preserved : goal.loop-byte-preserved
loop-byte-preserved c = search (rules, more_zero)

pub returns : goal.returns
returns c = search (rules, all_zero_lem)
