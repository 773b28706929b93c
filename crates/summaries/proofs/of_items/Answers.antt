-- `summaries::of_items` meets its contract: the summary tells of the items passed.
-- Assumes nothing.
use native.Mathlib.Omega.{arith}
use Rattle.patterns.specs.Laws.Lists.{all_left, item_view, next_room, walks_on}
use Rattle.summaries.specs.Laws.Gathering.{read_bounded, none_gathered, gathers_on, all_gathered}
use Rattle.summaries.proofs.of_items.Goals as goal

pub item_at-first-requires : goal.item_at-first-requires
item_at-first-requires c = item_view (all_left c.requires)

pub of_item-all-requires : goal.of_item-all-requires
of_item-all-requires c = let v = item_view (all_left c.requires) in read_bounded v (c.item_at-first.ensures v)

pub loop-all-init : goal.loop-all-init
loop-all-init c = λ v. none_gathered v c.of_item-all.ensures

pub item_at-found-requires : goal.item_at-found-requires
item_at-found-requires c = item_view (c.loop-all.invariant c.requires).rest

pub of_item-requires : goal.of_item-requires
of_item-requires c = let v = item_view (c.loop-all.invariant c.requires).rest in read_bounded v (c.item_at-found.ensures v)

pub kind_at-requires : goal.kind_at-requires
kind_at-requires c = next_room (c.loop-all.invariant c.requires).rest c.item_at-found.ensures

pub returns-then-kind_at-ne-COMMA : goal.returns-then-kind_at-ne-COMMA
returns-then-kind_at-ne-COMMA c = λ v. all_gathered (c.loop-all.invariant v) c.item_at-found.ensures c.of_item.ensures c.joined-all.ensures c.kind_at.ensures c.if-kind_at-ne-COMMA.true

pub overflow_add-at : goal.overflow_add-at
overflow_add-at c = omega (arith, walks_on (c.loop-all.invariant c.requires).rest c.item_at-found.ensures)

pub loop-all-smaller : goal.loop-all-smaller
loop-all-smaller c = omega (arith, walks_on (c.loop-all.invariant c.requires).rest c.item_at-found.ensures)

pub loop-all-preserved : goal.loop-all-preserved
loop-all-preserved c = λ v. gathers_on (c.loop-all.invariant v) c.item_at-found.ensures c.of_item.ensures c.joined-all.ensures c.kind_at.ensures c.if-kind_at-ne-COMMA.false
