-- `selectors::lists::some_meet` meets its contract: each item of one list is asked whether it meets one of the other.
-- Assumes nothing.
use native.Mathlib.Omega.{arith}
use mathlib.Core.Path.{◌∙◌}
use Rattle.patterns.specs.Laws.Lists.{some_meet_lem, walk_starts, item_view, next_room, walks_on, walk_finds, walk_ends, walk_goes_on, first_list, second_list}
use Rattle.selectors.proofs.lists.some_meet.Goals as goal

pub loop-p-init : goal.loop-p-init
loop-p-init c = λ v. walk_starts _ (first_list v)

pub item_at-found-requires : goal.item_at-found-requires
item_at-found-requires c = item_view (c.loop-p.invariant c.requires).rest

pub returns-then-meets_any : goal.returns-then-meets_any
returns-then-meets_any c = λ v. walk_finds (c.loop-p.invariant v) c.item_at-found.ensures (c.meets_any.ensures (second_list v)) c.if-meets_any.true ∙ some_meet_lem _ _

pub kind_at-requires : goal.kind_at-requires
kind_at-requires c = next_room (c.loop-p.invariant c.requires).rest c.item_at-found.ensures

pub returns-then-kind_at-ne-COMMA : goal.returns-then-kind_at-ne-COMMA
returns-then-kind_at-ne-COMMA c =
    λ v. walk_ends (c.loop-p.invariant v) c.item_at-found.ensures (c.meets_any.ensures (second_list v))
    c.kind_at.ensures c.if-meets_any.false c.if-kind_at-ne-COMMA.true
    ∙ some_meet_lem _ _

pub loop-p-smaller : goal.loop-p-smaller
loop-p-smaller c = omega (arith, walks_on (c.loop-p.invariant c.requires).rest c.item_at-found.ensures)

pub loop-p-preserved : goal.loop-p-preserved
loop-p-preserved c =
    λ v. walk_goes_on (c.loop-p.invariant v) c.item_at-found.ensures (c.meets_any.ensures (second_list v))
    c.kind_at.ensures c.if-meets_any.false c.if-kind_at-ne-COMMA.false
