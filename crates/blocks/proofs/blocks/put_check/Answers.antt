-- `blocks::blocks::put_check` meets its contract: two halves of a number.
-- Assumes nothing.
use Rattle.blocks.specs.Laws.Puts.{check_written}
use Rattle.blocks.proofs.blocks.put_check.Goals as goal

pub returns : goal.returns
returns c =
    check_written c.args.block.now _ _ _
    c.requires
    c.put16.ensures c.put16-2.ensures
