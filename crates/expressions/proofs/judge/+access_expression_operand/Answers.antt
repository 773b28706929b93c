-- The proof of the cycle of calls {access, expression, operand}. The measure is three times the depth, and a rank: an expression calls for its operands,
-- an operand for an access, and both for an expression that lies one bracket deeper.
-- Assumes nothing.
use borrow.Author.Rules.{rules}
use native.Mathlib.Omega.{arith}
use mathlib.Core.Path.{refl}
use Prim.Native.Nat.{ℕ, ◌<◌}
use Rattle.expressions.proofs.Steps as steps
use Rattle.expressions.proofs.judge.+access_expression_operand.Goals as goal

-- the next operator finds room among those that wait
slot_free : (t : ℕ) (c : goal.expression-Else-tight-eq0 t) → c.settle-left.result.count < 5
slot_free t c = steps.slot_free c.loop-ats.invariant _ _ c.kind_at.ensures c.tightness_of-tight.ensures c.settle-left.ensures c.if-tight-eq0.false c.requires

pub access-overflow_add-i : goal.access-overflow_add-i
access-overflow_add-i t c = record { fits = omega (arith, steps.second_room c.requires) }

pub access-kind_at-requires : goal.access-kind_at-requires
access-kind_at-requires t c = search (rules, steps.second_room)

pub access-overflow_add-i-then-kind_at-ne-LBRA : goal.access-overflow_add-i-then-kind_at-ne-LBRA
access-overflow_add-i-then-kind_at-ne-LBRA t c = record { fits = omega (arith, steps.second_room c.requires) }

pub access-named-requires : goal.access-named-requires
access-named-requires t c = search (rules, steps.plain_name)

pub access-returns-then-kind_at-ne-LBRA : goal.access-returns-then-kind_at-ne-LBRA
access-returns-then-kind_at-ne-LBRA t c = search (rules, steps.plain_returns)

pub access-overflow_add-i-2 : goal.access-overflow_add-i-2
access-overflow_add-i-2 t c = record { fits = omega (arith, steps.second_room c.requires) }

pub access-overflow_sub-depth : goal.access-overflow_sub-depth
access-overflow_sub-depth t c = omega (arith, steps.index_deep c.kind_at.ensures c.if-kind_at-ne-LBRA.false c.requires)

pub access-expression-index-requires : goal.access-expression-index-requires
access-expression-index-requires t c = (omega (arith, steps.index_deep c.kind_at.ensures c.if-kind_at-ne-LBRA.false c.requires), steps.index_at c.kind_at.ensures c.if-kind_at-ne-LBRA.false c.requires)

pub access-overflow_add-index : goal.access-overflow_add-index
access-overflow_add-index t c = record { fits = omega (arith, steps.index_few c.kind_at.ensures c.if-kind_at-ne-LBRA.false c.expression-index.ensures c.requires) }

pub access-named-name-requires : goal.access-named-name-requires
access-named-name-requires t c = search (rules, steps.indexed_name)

pub access-returns-then-key-lt-NO_KEY : goal.access-returns-then-key-lt-NO_KEY
access-returns-then-key-lt-NO_KEY t c = search (rules, steps.indexed_unsound)

pub access-returns : goal.access-returns
access-returns t c = search (rules, steps.indexed_sound)

pub expression-operand-last-requires : goal.expression-operand-last-requires
expression-operand-last-requires t c = search (rules, steps.first_operand)

pub expression-loop-ats-init : goal.expression-loop-ats-init
expression-loop-ats-init t c = steps.begun refl refl refl c.operand-last.ensures c.requires

pub expression-settle-left-requires : goal.expression-settle-left-requires
expression-settle-left-requires t c = search (rules, steps.settle_at)

pub expression-returns-then-tight-eq0 : goal.expression-returns-then-tight-eq0
expression-returns-then-tight-eq0 t c = steps.returns c.loop-ats.invariant _ _ c.kind_at.ensures c.tightness_of-tight.ensures c.settle-left.ensures c.if-tight-eq0.true

pub expression-offset_bounds-ats-slot : goal.expression-offset_bounds-ats-slot
expression-offset_bounds-ats-slot t c = record { fits = omega (arith, slot_free t c) }

pub expression-bounds-ats-slot : goal.expression-bounds-ats-slot
expression-bounds-ats-slot t c = slot_free t c

pub expression-offset_bounds-keys-slot : goal.expression-offset_bounds-keys-slot
expression-offset_bounds-keys-slot t c = record { fits = omega (arith, slot_free t c) }

pub expression-bounds-keys-slot : goal.expression-bounds-keys-slot
expression-bounds-keys-slot t c = slot_free t c

pub expression-offset_bounds-lengths-slot : goal.expression-offset_bounds-lengths-slot
expression-offset_bounds-lengths-slot t c = record { fits = omega (arith, slot_free t c) }

pub expression-bounds-lengths-slot : goal.expression-bounds-lengths-slot
expression-bounds-lengths-slot t c = slot_free t c

pub expression-overflow_add-count : goal.expression-overflow_add-count
expression-overflow_add-count t c = record { fits = omega (arith, slot_free t c) }

pub expression-operand-last-requires-in-loop-ats : goal.expression-operand-last-requires-in-loop-ats
expression-operand-last-requires-in-loop-ats t c = (omega arith, steps.next_operand c.loop-ats.invariant _ _ c.kind_at.ensures c.tightness_of-tight.ensures c.settle-left.ensures c.if-tight-eq0.false c.requires)

pub expression-loop-ats-smaller : goal.expression-loop-ats-smaller
expression-loop-ats-smaller t c = omega (arith, steps.further c.loop-ats.invariant _ _ c.kind_at.ensures c.tightness_of-tight.ensures c.settle-left.ensures c.if-tight-eq0.false c.operand-last-in-loop-ats.ensures c.requires, c.loop-ats.invariant.room)

pub expression-loop-ats-preserved : goal.expression-loop-ats-preserved
expression-loop-ats-preserved t c = steps.again c.loop-ats.invariant _ _ c.kind_at.ensures c.tightness_of-tight.ensures c.settle-left.ensures c.if-tight-eq0.false c.operand-last-in-loop-ats.ensures c.requires

pub operand-behind_nots-at-requires : goal.operand-behind_nots-at-requires
operand-behind_nots-at-requires t c = search (rules, steps.in_table)

pub operand-kind_at-kind-requires : goal.operand-kind_at-kind-requires
operand-kind_at-kind-requires t c = search (rules, steps.bare_room)

pub operand-size_at-requires : goal.operand-size_at-requires
operand-size_at-requires t c = search (rules, steps.bare_room)

pub operand-overflow_add-result : goal.operand-overflow_add-result
operand-overflow_add-result t c = record { fits = omega (arith, steps.bare_room c.behind_nots-at.ensures c.requires) }

pub operand-returns-then-kind-eq-CONST : goal.operand-returns-then-kind-eq-CONST
operand-returns-then-kind-eq-CONST t c = search (rules, steps.constant_returns)

pub operand-overflow_add-at : goal.operand-overflow_add-at
operand-overflow_add-at t c = record { fits = omega (arith, steps.bare_room c.behind_nots-at.ensures c.requires) }

pub operand-overflow_sub-depth : goal.operand-overflow_sub-depth
operand-overflow_sub-depth t c = omega (arith, steps.group_deep c.behind_nots-at.ensures c.kind_at-kind.ensures c.if-kind-eq-LPAR.true c.requires)

pub operand-expression-inner-requires : goal.operand-expression-inner-requires
operand-expression-inner-requires t c = (omega (arith, steps.group_deep c.behind_nots-at.ensures c.kind_at-kind.ensures c.if-kind-eq-LPAR.true c.requires), steps.group_at c.behind_nots-at.ensures c.kind_at-kind.ensures c.if-kind-eq-LPAR.true c.requires)

pub operand-overflow_add-result-then-kind-eq-LPAR : goal.operand-overflow_add-result-then-kind-eq-LPAR
operand-overflow_add-result-then-kind-eq-LPAR t c = record { fits = omega (arith, steps.group_few c.behind_nots-at.ensures c.kind_at-kind.ensures c.if-kind-eq-LPAR.true c.expression-inner.ensures c.requires) }

pub operand-returns-then-kind-eq-LPAR : goal.operand-returns-then-kind-eq-LPAR
operand-returns-then-kind-eq-LPAR t c = search (rules, steps.group_returns)

pub operand-access-requires : goal.operand-access-requires
operand-access-requires t c = search (rules, steps.access_at)

pub operand-returns : goal.operand-returns
operand-returns t c = search (rules, steps.access_returns)
