-- `selectors::lists::past_length` meets its contract: each item is asked for its highest value.
-- Assumes nothing.
use native.Mathlib.Omega.{arith}
use mathlib.Core.Path.{◌∙◌}
use Rattle.patterns.specs.Laws.Lists.{some_past, walk_starts, item_view, next_room, item_fits, walks_on, walk_finds, walk_ends, walk_goes_on}
use Rattle.selectors.proofs.lists.past_length.Goals as goal

pub loop-n-init : goal.loop-n-init
loop-n-init c = λ v. walk_starts _ v

pub item_at-found-requires : goal.item_at-found-requires
item_at-found-requires c = item_view (c.loop-n.invariant c.requires.1).rest

pub past-requires : goal.past-requires
past-requires c = let v = c.requires in (v.0, item_fits (c.loop-n.invariant v.1).rest c.item_at-found.ensures)

pub returns-then-past : goal.returns-then-past
returns-then-past c = λ v. walk_finds (c.loop-n.invariant v) c.item_at-found.ensures c.past.ensures c.if-past.true ∙ some_past _ _

pub kind_at-requires : goal.kind_at-requires
kind_at-requires c = next_room (c.loop-n.invariant c.requires.1).rest c.item_at-found.ensures

pub returns-then-kind_at-ne-COMMA : goal.returns-then-kind_at-ne-COMMA
returns-then-kind_at-ne-COMMA c =
    λ v. walk_ends (c.loop-n.invariant v) c.item_at-found.ensures c.past.ensures
    c.kind_at.ensures c.if-past.false c.if-kind_at-ne-COMMA.true
    ∙ some_past _ _

pub loop-n-smaller : goal.loop-n-smaller
loop-n-smaller c = omega (arith, walks_on (c.loop-n.invariant c.requires.1).rest c.item_at-found.ensures)

pub loop-n-preserved : goal.loop-n-preserved
loop-n-preserved c =
    λ v. walk_goes_on (c.loop-n.invariant v) c.item_at-found.ensures c.past.ensures
    c.kind_at.ensures c.if-past.false c.if-kind_at-ne-COMMA.false
