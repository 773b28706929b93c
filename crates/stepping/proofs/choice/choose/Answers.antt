-- `stepping::choice::choose` meets its contract: the alternatives are asked in turn.
-- Assumes nothing.
use native.Mathlib.Omega.{arith}
use mathlib.Core.Path.{refl}
use Prim.Native.Nat.{◌-◌}
use Rattle.stepping.specs.Laws.Choice.{choice_room, case_view, goes_ahead, walk_ends, walk_finds, walk_goes_on}
use Rattle.stepping.proofs.choice.choose.Goals as goal

pub loop-p-init : goal.loop-p-init
loop-p-init c = (omega arith, λ v. record { rest = v; same = refl })

pub kind_at-requires : goal.kind_at-requires
kind_at-requires c = choice_room (c.loop-p.invariant.1 c.requires).rest

pub overflow_add-at : goal.overflow_add-at
overflow_add-at c = omega (arith, choice_room (c.loop-p.invariant.1 c.requires).rest)

pub takes_value-requires : goal.takes_value-requires
takes_value-requires c = case_view (c.loop-p.invariant.1 c.requires).rest c.kind_at.ensures c.loop-p-test.true

pub inside_at-requires : goal.inside_at-requires
inside_at-requires c = choice_room (c.loop-p.invariant.1 c.requires).rest

pub returns-then-takes_value : goal.returns-then-takes_value
returns-then-takes_value c = λ v. walk_finds (c.loop-p.invariant.1 v) c.kind_at.ensures c.loop-p-test.true c.takes_value.ensures c.if-takes_value.true c.inside_at.ensures

pub overflow_add-number : goal.overflow_add-number
overflow_add-number c = omega (arith, c.loop-p.invariant.0, choice_room (c.loop-p.invariant.1 c.requires).rest)

pub link_at-at-requires : goal.link_at-at-requires
link_at-at-requires c = choice_room (c.loop-p.invariant.1 c.requires).rest

pub loop-p-smaller : goal.loop-p-smaller
loop-p-smaller c = omega (arith, c.link_at-at.ensures, goes_ahead (c.loop-p.invariant.1 c.requires).rest c.kind_at.ensures c.loop-p-test.true)

pub loop-p-preserved : goal.loop-p-preserved
loop-p-preserved c = (
  omega (arith, c.loop-p.invariant.0, c.link_at-at.ensures, goes_ahead (c.loop-p.invariant.1 c.requires).rest c.kind_at.ensures c.loop-p-test.true),
  λ v.
      walk_goes_on (c.loop-p.invariant.1 v) c.kind_at.ensures c.loop-p-test.true c.takes_value.ensures c.if-takes_value.false c.link_at-at.ensures,
)

pub returns : goal.returns
returns c = λ v. walk_ends (c.loop-p.invariant.1 v) c.kind_at.ensures c.loop-p-test.false
