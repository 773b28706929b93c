-- `blocks::blocks::put_head` meets its contract.
-- Assumes nothing.
use Rattle.blocks.specs.Laws.Puts.{head_put, head_room}
use Rattle.blocks.proofs.blocks.put_head.Goals as goal

pub put16-requires : goal.put16-requires
put16-requires c = head_room _ c.args.block.now _ c.requires.0 c.clear.ensures

pub returns : goal.returns
returns c = head_put _ _ c.args.block.now _ _ c.requires.0 c.clear.ensures c.put16.ensures
