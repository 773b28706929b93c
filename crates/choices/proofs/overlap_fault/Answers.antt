-- `choices::overlap_fault` meets its contract: the cells of the level are a table of their own.
-- Assumes nothing.
use native.Mathlib.Omega.{arith}
use Rattle.choices.specs.Laws.Starts.{starts_part, starts_room, start_room, start_place, no_overlap, later_less, an_overlap}
use Rattle.choices.proofs.overlap_fault.Goals as goal

pub first_overlap-later-requires : goal.first_overlap-later-requires
first_overlap-later-requires c = starts_part c.requires c.compared-count.ensures

pub returns-then-later-count : goal.returns-then-later-count
returns-then-later-count c = λ v. no_overlap v c.compared-count.ensures (c.first_overlap-later.ensures (starts_part v c.compared-count.ensures)) c.if-later-count.true

pub overflow_add-base-2 : goal.overflow_add-base-2
overflow_add-base-2 c =
    let v = c.requires in
    omega (arith, starts_room v (later_less v c.compared-count.ensures (c.first_overlap-later.ensures (starts_part v c.compared-count.ensures)) c.if-later-count.false))

pub get16-at-requires : goal.get16-at-requires
get16-at-requires c =
    let v = c.requires in
    omega (arith, starts_room v (later_less v c.compared-count.ensures (c.first_overlap-later.ensures (starts_part v c.compared-count.ensures)) c.if-later-count.false))

pub place_at-requires : goal.place_at-requires
place_at-requires c =
    let v = c.requires in
    start_room v (later_less v c.compared-count.ensures (c.first_overlap-later.ensures (starts_part v c.compared-count.ensures)) c.if-later-count.false) c.get16-at.ensures

pub fault_key-requires : goal.fault_key-requires
fault_key-requires c =
    let v = c.requires in
    omega (
      arith,
      c.place_at.ensures,
      start_place v (later_less v c.compared-count.ensures (c.first_overlap-later.ensures (starts_part v c.compared-count.ensures)) c.if-later-count.false) c.get16-at.ensures,
    )

pub returns : goal.returns
returns c = λ v. an_overlap v c.compared-count.ensures (c.first_overlap-later.ensures (starts_part v c.compared-count.ensures)) c.if-later-count.false c.get16-at.ensures c.place_at.ensures c.fault_key.ensures
