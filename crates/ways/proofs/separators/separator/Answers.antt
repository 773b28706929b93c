-- `ways::separators::separator` meets its contract.
-- Assumes nothing.
use native.Mathlib.Omega.{arith}
use Rattle.ways.specs.Laws.Firsts.{first_fits}
use Rattle.ways.specs.Laws.Turns.{separator_within, turn_end, turn_begins, turn_end_within, extends}
use Rattle.ways.proofs.separators.separator.Goals as goal

pub seek-end-requires : goal.seek-end-requires
seek-end-requires c = let (g, v) = c.requires in (g, turn_end v (c.behind_selector-from.ensures g v))

pub first_of-first-requires : goal.first_of-first-requires
first_of-first-requires c = let (g, v) = c.requires in (g, turn_begins v (c.behind_selector-from.ensures g v))

pub put_inside-requires : goal.put_inside-requires
put_inside-requires c =
    let (g, v) = c.requires in
    let s = turn_begins v (c.behind_selector-from.ensures g v) in
    ((separator_within (g, v)).0, omega (arith, (first_fits s (c.first_of-first.ensures g s)).1))

pub put_link-requires : goal.put_link-requires
put_link-requires c =
    let (g, v) = c.requires in
    let b = c.behind_selector-from.ensures g v in (
      omega (arith, (separator_within (g, v)).0, c.put_inside.ensures.kept.long),
      omega (arith, turn_end_within v b c.seek-end.result (c.seek-end.ensures.1 g (turn_end v b))),
    )

pub returns : goal.returns
returns c =
    λ g v. let b = c.behind_selector-from.ensures g v in
    extends v b c.seek-end.result (c.seek-end.ensures.1 g (turn_end v b)) (c.first_of-first.ensures g (turn_begins v b)) c.put_inside.ensures
    c.put_link.ensures
