-- `lent::answers::refusal` meets its contract: line and column are those of its number and place.
-- Assumes nothing.
use Rattle.lent.specs.Laws.Numbers.{position_stands}
use Rattle.lent.proofs.answers.refusal.Goals as goal

pub returns : goal.returns
returns c = position_stands _ _ _ _ _ _ c.position_of-here.ensures
