-- `whole::walks::fault_at` meets its contract.
use mathlib.Core.Path.{sym}
use native.Mathlib.Omega.{arith}
use lib.Seq.{length-take-le}
use Rattle.room.specs.Whole.{labels_from}
use Rattle.whole.specs.Laws.Written.{reading, worded}
use Rattle.whole.specs.Laws.WalkKeys.{memo_room, all_labels, fault_group, told_group, fault_jump, told_nothing}
use Rattle.whole.proofs.walks.fault_at.Goals as goal

pub slice_bounds-group_at-end : goal.slice_bounds-group_at-end
slice_bounds-group_at-end c =
    sym (length-take-le labels_from c.args.room.now
    (omega (arith, c.requires.roomy.size)))

pub group_at-requires : goal.group_at-requires
group_at-requires c = (
  reading c.requires.written,
  (
    memo_room c.requires.written
        c.requires.roomy,
    c.requires.roomy.complete,
  ),
)

pub returns-then-opens : goal.returns-then-opens
returns-then-opens c = (
  fault_group c.requires c.opens.ensures
      c.if-opens.true c.group_at.ensures.0,
  told_group c.requires c.opens.ensures c.group_at.ensures.1,
)

pub jump_key-requires : goal.jump_key-requires
jump_key-requires c = (
  worded c.requires.written,
  (
    rw (all_labels c.args.room.now)
        c.requires.labelled,
    (c.requires.within, c.requires.kind_is),
  ),
)

pub returns : goal.returns
returns c = (
  fault_jump c.requires c.opens.ensures
      c.if-opens.false (rw (all_labels c.args.room.now) at
      c.jump_key.ensures),
  told_nothing c.requires c.opens.ensures c.if-opens.false _,
)
