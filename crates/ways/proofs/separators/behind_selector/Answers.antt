-- `ways::separators::behind_selector` meets its contract: behind the `:=` of a selector, if there is one.
-- Assumes nothing.
use native.Mathlib.Omega.{arith}
use Rattle.ways.specs.Laws.Seeking.{found_within}
use Rattle.ways.specs.Laws.Turns.{separator_within, opener_within, lead_sought, led_action, bare_action}
use Rattle.ways.proofs.separators.behind_selector.Goals as goal

pub overflow_add-p : goal.overflow_add-p
overflow_add-p c = omega (arith, (separator_within c.requires).1)

pub kind_at-kind-requires : goal.kind_at-kind-requires
kind_at-kind-requires c = opener_within c.requires.1

pub overflow_add-p-then-selects : goal.overflow_add-p-then-selects
overflow_add-p-then-selects c = omega (arith, (separator_within c.requires).1)

pub seek-requires : goal.seek-requires
seek-requires c = (c.requires.0, lead_sought c.requires.1 c.kind_at-kind.ensures c.selects.ensures c.if-selects.true)

pub overflow_add-result : goal.overflow_add-result
overflow_add-result c =
    let (g, v) = c.requires in
    let s = lead_sought v c.kind_at-kind.ensures c.selects.ensures c.if-selects.true in
    omega (arith, found_within g s c.seek.result (c.seek.ensures.1 g s))

pub returns-then-selects : goal.returns-then-selects
returns-then-selects c =
    λ g v. led_action v c.kind_at-kind.ensures c.selects.ensures c.if-selects.true c.seek.result
    (c.seek.ensures.1 g (lead_sought v c.kind_at-kind.ensures c.selects.ensures c.if-selects.true))

pub overflow_add-result-2 : goal.overflow_add-result-2
overflow_add-result-2 c = omega (arith, (separator_within c.requires).1)

pub returns : goal.returns
returns c = λ g v. bare_action v c.kind_at-kind.ensures c.selects.ensures c.if-selects.false
