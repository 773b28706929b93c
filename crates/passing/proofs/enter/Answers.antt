-- `passing::enter` meets its contract: every member around the instruction is entered.
-- Assumes nothing.
use Rattle.passing.specs.Laws.Telling.{told_as, fits_as}
use Rattle.passing.specs.Laws.Meeting.{passed_fits, enters}
use Rattle.passing.proofs.enter.Goals as goal

pub open_all-requires : goal.open_all-requires
open_all-requires c =
    (c.requires.1.0, fits_as (enters _ _ c.member_of-y.ensures c.depth_of-depth.ensures) (passed_fits _ c.requires.1.1))

pub returns : goal.returns
returns c = told_as (enters _ _ c.member_of-y.ensures c.depth_of-depth.ensures) c.open_all.ensures
