-- `passing::leave` meets its contract: every member around the instruction is left.
-- Assumes nothing.
use Rattle.passing.specs.Laws.Telling.{told_as}
use Rattle.passing.specs.Laws.Meeting.{leaves}
use Rattle.passing.proofs.leave.Goals as goal

pub returns : goal.returns
returns c = told_as (leaves _ _ c.member_of-x.ensures c.depth_of-depth.ensures) c.close_all.ensures
