-- `blocks::blocks::put_front` meets its contract: the head, then the payload.
-- Assumes nothing.
use Rattle.blocks.specs.Laws.Puts.{front_put}
use Rattle.blocks.proofs.blocks.put_front.Goals as goal

pub returns : goal.returns
returns c = front_put _ _ _ _ c.requires.1.1 c.put_head.ensures c.copy.ensures
