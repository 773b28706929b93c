-- `selectors::lists::meets_any` meets its contract: each item is asked whether it meets the given one.
-- Assumes nothing.
use native.Mathlib.Omega.{arith}
use mathlib.Core.Path.{◌∙◌}
use Rattle.patterns.specs.Laws.Lists.{some_meets, walk_starts, item_view, next_room, walks_on, walk_finds, walk_ends, walk_goes_on}
use Rattle.selectors.proofs.lists.meets_any.Goals as goal

pub loop-item-init : goal.loop-item-init
loop-item-init c = λ v. walk_starts _ v

pub item_at-found-requires : goal.item_at-found-requires
item_at-found-requires c = item_view (c.loop-item.invariant c.requires).rest

pub returns-then-items_meet : goal.returns-then-items_meet
returns-then-items_meet c = λ v. walk_finds (c.loop-item.invariant v) c.item_at-found.ensures c.items_meet.ensures c.if-items_meet.true ∙ some_meets _ _

pub kind_at-requires : goal.kind_at-requires
kind_at-requires c = next_room (c.loop-item.invariant c.requires).rest c.item_at-found.ensures

pub returns-then-kind_at-ne-COMMA : goal.returns-then-kind_at-ne-COMMA
returns-then-kind_at-ne-COMMA c =
    λ v. walk_ends (c.loop-item.invariant v) c.item_at-found.ensures c.items_meet.ensures
    c.kind_at.ensures c.if-items_meet.false c.if-kind_at-ne-COMMA.true
    ∙ some_meets _ _

pub loop-item-smaller : goal.loop-item-smaller
loop-item-smaller c = omega (arith, walks_on (c.loop-item.invariant c.requires).rest c.item_at-found.ensures)

pub loop-item-preserved : goal.loop-item-preserved
loop-item-preserved c =
    λ v. walk_goes_on (c.loop-item.invariant v) c.item_at-found.ensures c.items_meet.ensures
    c.kind_at.ensures c.if-items_meet.false c.if-kind_at-ne-COMMA.false
