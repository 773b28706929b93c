-- `stepping::choice::any_matches` meets its contract: each item is asked whether it matches.
-- Assumes nothing.
use native.Mathlib.Omega.{arith}
use mathlib.Core.Path.{◌∙◌}
use Prim.Native.Nat.{◌-◌}
use Rattle.rules.specs.Selectors.{matches}
use Rattle.patterns.specs.Laws.Lists.{walk_starts, item_view, next_room, walks_on, walk_finds, walk_ends, walk_goes_on}
use Rattle.stepping.specs.Laws.Choice.{some_matches}
use Rattle.stepping.proofs.choice.any_matches.Goals as goal

pub loop-q-init : goal.loop-q-init
loop-q-init c = λ v. walk_starts _ v

pub item_at-found-requires : goal.item_at-found-requires
item_at-found-requires c = item_view (c.loop-q.invariant c.requires).rest

pub returns-then-matches : goal.returns-then-matches
returns-then-matches c = λ v. walk_finds (c.loop-q.invariant v) c.item_at-found.ensures c.matches.ensures c.if-matches.true ∙ some_matches _ _

pub kind_at-requires : goal.kind_at-requires
kind_at-requires c = next_room (c.loop-q.invariant c.requires).rest c.item_at-found.ensures

pub returns-then-kind_at-ne-COMMA : goal.returns-then-kind_at-ne-COMMA
returns-then-kind_at-ne-COMMA c =
    λ v. walk_ends (c.loop-q.invariant v) c.item_at-found.ensures c.matches.ensures
    c.kind_at.ensures c.if-matches.false c.if-kind_at-ne-COMMA.true
    ∙ some_matches _ _

pub overflow_add-at : goal.overflow_add-at
overflow_add-at c = omega (arith, walks_on (c.loop-q.invariant c.requires).rest c.item_at-found.ensures)

pub loop-q-smaller : goal.loop-q-smaller
loop-q-smaller c = omega (arith, walks_on (c.loop-q.invariant c.requires).rest c.item_at-found.ensures)

pub loop-q-preserved : goal.loop-q-preserved
loop-q-preserved c =
    λ v. walk_goes_on (c.loop-q.invariant v) c.item_at-found.ensures c.matches.ensures
    c.kind_at.ensures c.if-matches.false c.if-kind_at-ne-COMMA.false
