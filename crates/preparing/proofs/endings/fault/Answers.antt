-- `preparing::endings::fault` meets its contract: line and column are those of its number and place.
-- Assumes nothing.
use Rattle.lent.specs.Laws.Numbers.{position_stands}
use Rattle.preparing.proofs.endings.fault.Goals as goal

pub returns : goal.returns
returns c = position_stands _ _ _ _ _ _ c.position_of-here.ensures
