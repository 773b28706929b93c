-- `passing::pass` meets its contract: the deeper side comes up to the other first.
-- Assumes nothing.
use native.Mathlib.Omega.{arith}
use mathlib.Core.Path.{sym}
use Rattle.passing.specs.Laws.Telling.{all_left, left_as, some_told, all_told, still_fits, told_as, fits_as}
use Rattle.passing.specs.Laws.Meeting.{few_around, passed_fits, passes_up, passes_down}
use Rattle.passing.proofs.pass.Goals as goal

pub meet-requires : goal.meet-requires
meet-requires c =
    let e =
    passes_up _ _ _ c.member_of-x.ensures c.member_of-y.ensures c.depth_of-depth_from.ensures c.depth_of-depth_to.ensures (omega arith)
    c.up_by-above.ensures
    in
    let n = some_told _ _ (left_as (sym e) (all_left _ _)) c.close_all.ensures in
    (c.requires.0, omega (arith, few_around _ _ c.depth_of-depth_to.ensures), (c.requires.1.0, still_fits n (passed_fits _ c.requires.1.1)))

pub returns-then-depth_to-depth_from : goal.returns-then-depth_to-depth_from
returns-then-depth_to-depth_from c =
    let e =
    passes_up _ _ _ c.member_of-x.ensures c.member_of-y.ensures c.depth_of-depth_from.ensures c.depth_of-depth_to.ensures (omega arith)
    c.up_by-above.ensures
    in
    let n = some_told _ _ (left_as (sym e) (all_left _ _)) c.close_all.ensures in
    all_told n c.meet.ensures

pub meet-requires-2 : goal.meet-requires-2
meet-requires-2 c =
    let e =
    passes_down _ _ _ c.member_of-x.ensures c.member_of-y.ensures c.depth_of-depth_from.ensures c.depth_of-depth_to.ensures (omega arith)
    c.up_by-above-2.ensures
    in
    (c.requires.0, omega (arith, few_around _ _ c.depth_of-depth_to.ensures), (c.requires.1.0, fits_as e (passed_fits _ c.requires.1.1)))

pub returns : goal.returns
returns c =
    let e =
    passes_down _ _ _ c.member_of-x.ensures c.member_of-y.ensures c.depth_of-depth_from.ensures c.depth_of-depth_to.ensures (omega arith)
    c.up_by-above-2.ensures
    in
    told_as e c.meet-2.ensures
