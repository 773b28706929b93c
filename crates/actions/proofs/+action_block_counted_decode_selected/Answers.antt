-- The cycle of calls {action, block, counted, decode, selected}. The measure is three times the depth, and a rank: alternatives call for an action, an
-- action for its block or DECODE, and these for what lies one BEGIN deeper.
-- Assumes nothing.
use native.Mathlib.Omega.{arith}
use mathlib.Core.Path.{ap, ◌∙◌}
use Prim.Native.Nat.{min}
use Rattle.stacks.specs.Laws.Kept.{kept_less}
use Rattle.actions.proofs.Steps as steps
use Rattle.actions.proofs.+action_block_counted_decode_selected.Goals as goal

pub action-prefixes-front-requires : goal.action-prefixes-front-requires
action-prefixes-front-requires t c = c.requires

pub action-kind_at-kind-requires : goal.action-kind_at-kind-requires
action-kind_at-kind-requires t c = steps.front_room (c.prefixes-front.ensures.kept, c.prefixes-front.ensures.answer) c.requires.1

pub action-block-inside-requires : goal.action-block-inside-requires
action-block-inside-requires t c = (omega arith, steps.block_asked (c.prefixes-front.ensures.kept, c.prefixes-front.ensures.answer) c.kind_at-kind.ensures c.if-kind-eq-BEGIN.true c.requires.1)

pub action-returns-then-kind-eq-BEGIN : goal.action-returns-then-kind-eq-BEGIN
action-returns-then-kind-eq-BEGIN t c = record { kept = steps.action_keeps (c.prefixes-front.ensures.kept, c.prefixes-front.ensures.answer) c.block-inside.ensures.kept c.requires.1; answer = λ text v. steps.block_answers (c.prefixes-front.ensures.kept, c.prefixes-front.ensures.answer) c.kind_at-kind.ensures c.earlier.ensures v c.if-kind-eq-BEGIN.true c.block-inside.ensures.answer }

pub action-decode-inside-requires : goal.action-decode-inside-requires
action-decode-inside-requires t c = (omega arith, steps.decode_asked (c.prefixes-front.ensures.kept, c.prefixes-front.ensures.answer) c.kind_at-kind.ensures c.if-kind-eq-DECODE.true c.requires.1)

pub action-returns-then-kind-eq-DECODE : goal.action-returns-then-kind-eq-DECODE
action-returns-then-kind-eq-DECODE t c = record { kept = steps.action_keeps (c.prefixes-front.ensures.kept, c.prefixes-front.ensures.answer) c.decode-inside.ensures.kept c.requires.1; answer = λ text v. steps.decode_answers (c.prefixes-front.ensures.kept, c.prefixes-front.ensures.answer) c.kind_at-kind.ensures c.earlier-then-kind-eq-DECODE.ensures v c.if-kind-eq-DECODE.true c.decode-inside.ensures.answer }

pub action-simple-inside-requires : goal.action-simple-inside-requires
action-simple-inside-requires t c = steps.simple_asked (c.prefixes-front.ensures.kept, c.prefixes-front.ensures.answer) c.kind_at-kind.ensures c.if-kind-eq-BEGIN.false c.if-kind-eq-DECODE.false c.requires.1

pub action-returns : goal.action-returns
action-returns t c = record {
  kept = kept_less c.prefixes-front.ensures.kept (omega arith) (omega arith);
  answer = λ text v. steps.simple_answers (c.prefixes-front.ensures.kept, c.prefixes-front.ensures.answer) c.kind_at-kind.ensures c.earlier-2.ensures v c.if-kind-eq-BEGIN.false c.if-kind-eq-DECODE.false c.simple-inside.ensures;
}

pub block-overflow_add-at : goal.block-overflow_add-at
block-overflow_add-at t c = record { fits = omega (arith, steps.block_inside c.requires) }

pub block-loop-i-init : goal.block-loop-i-init
block-loop-i-init t c = steps.block_begun

pub block-overflow_sub-depth : goal.block-overflow_sub-depth
block-overflow_sub-depth t c = omega (arith, steps.block_deep c.loop-i.invariant c.requires)

pub block-action-member-requires : goal.block-action-member-requires
block-action-member-requires t c = (omega (arith, steps.block_deep c.loop-i.invariant c.requires), steps.member_asked c.loop-i.invariant c.requires)

pub block-kind_at-requires : goal.block-kind_at-requires
block-kind_at-requires t c = (steps.member_next c.loop-i.invariant (c.action-member.ensures.kept, c.action-member.ensures.answer) c.requires).2

pub block-overflow_add-result : goal.block-overflow_add-result
block-overflow_add-result t c = record { fits = omega (arith, (steps.member_next c.loop-i.invariant (c.action-member.ensures.kept, c.action-member.ensures.answer) c.requires).0) }

pub block-returns-then-kind_at-eq-END : goal.block-returns-then-kind_at-eq-END
block-returns-then-kind_at-eq-END t c = record { kept = steps.block_keeps c.loop-i.invariant (c.action-member.ensures.kept, c.action-member.ensures.answer); answer = steps.block_ends c.loop-i.invariant (c.action-member.ensures.kept, c.action-member.ensures.answer) c.kind_at.ensures c.earlier-key.ensures c.if-kind_at-eq-END.true }

pub block-overflow_add-at-in-loop-i : goal.block-overflow_add-at-in-loop-i
block-overflow_add-at-in-loop-i t c = record { fits = omega (arith, (steps.member_next c.loop-i.invariant (c.action-member.ensures.kept, c.action-member.ensures.answer) c.requires).0) }

pub block-loop-i-smaller : goal.block-loop-i-smaller
block-loop-i-smaller t c = omega (arith, (steps.member_next c.loop-i.invariant (c.action-member.ensures.kept, c.action-member.ensures.answer) c.requires).0, (steps.member_next c.loop-i.invariant (c.action-member.ensures.kept, c.action-member.ensures.answer) c.requires).1)

pub block-loop-i-preserved : goal.block-loop-i-preserved
block-loop-i-preserved t c = steps.block_again c.loop-i.invariant (c.action-member.ensures.kept, c.action-member.ensures.answer) c.kind_at.ensures c.earlier-key.ensures c.if-kind_at-eq-END.false

pub counted-loop-i-init : goal.counted-loop-i-init
counted-loop-i-init t c = steps.counted_begun

pub counted-counted_fault-fault-requires : goal.counted-counted_fault-fault-requires
counted-counted_fault-fault-requires t c = let h = steps.counted_here c.loop-i.invariant c.requires in (h.0, h.1, omega (arith, h.2))

pub counted-action-inside-requires : goal.counted-action-inside-requires
counted-action-inside-requires t c = (omega arith, steps.counted_action c.loop-i.invariant c.requires)

pub counted-overflow_add-number : goal.counted-overflow_add-number
counted-overflow_add-number t c = record { fits = omega (arith, steps.counted_number c.loop-i.invariant c.requires) }

pub counted-kind_at-requires : goal.counted-kind_at-requires
counted-kind_at-requires t c = (steps.counted_next c.loop-i.invariant c.counted_fault-fault.ensures (c.action-inside.ensures.kept, c.action-inside.ensures.answer) c.requires).2

pub counted-overflow_add-result : goal.counted-overflow_add-result
counted-overflow_add-result t c = record { fits = omega (arith, (steps.counted_next c.loop-i.invariant c.counted_fault-fault.ensures (c.action-inside.ensures.kept, c.action-inside.ensures.answer) c.requires).0) }

pub counted-returns-then-kind_at-eq-END : goal.counted-returns-then-kind_at-eq-END
counted-returns-then-kind_at-eq-END t c = record { kept = steps.counted_keeps c.loop-i.invariant c.counted_fault-fault.ensures (c.action-inside.ensures.kept, c.action-inside.ensures.answer); answer = steps.counted_ends c.loop-i.invariant c.counted_fault-fault.ensures (c.action-inside.ensures.kept, c.action-inside.ensures.answer) c.kind_at.ensures (c.earlier-key.ensures ∙ ap (min _) c.earlier.ensures) c.if-kind_at-eq-END.true }

pub counted-overflow_add-at : goal.counted-overflow_add-at
counted-overflow_add-at t c = record { fits = omega (arith, (steps.counted_next c.loop-i.invariant c.counted_fault-fault.ensures (c.action-inside.ensures.kept, c.action-inside.ensures.answer) c.requires).0) }

pub counted-loop-i-smaller : goal.counted-loop-i-smaller
counted-loop-i-smaller t c = omega (arith, (steps.counted_next c.loop-i.invariant c.counted_fault-fault.ensures (c.action-inside.ensures.kept, c.action-inside.ensures.answer) c.requires).0, (steps.counted_next c.loop-i.invariant c.counted_fault-fault.ensures (c.action-inside.ensures.kept, c.action-inside.ensures.answer) c.requires).1)

pub counted-loop-i-preserved : goal.counted-loop-i-preserved
counted-loop-i-preserved t c = steps.counted_again c.loop-i.invariant c.counted_fault-fault.ensures (c.action-inside.ensures.kept, c.action-inside.ensures.answer) c.kind_at.ensures (c.earlier-key.ensures ∙ ap (min _) c.earlier.ensures) c.if-kind_at-eq-END.false

pub decode-overflow_add-i : goal.decode-overflow_add-i
decode-overflow_add-i t c = record { fits = omega (arith, steps.decode_inside c.requires) }

pub decode-expression-test-requires : goal.decode-expression-test-requires
decode-expression-test-requires t c = steps.test_asked c.requires

pub decode-overflow_add-first : goal.decode-overflow_add-first
decode-overflow_add-first t c = record { fits = omega (arith, steps.choices_inside c.expression-test.ensures c.requires) }

pub decode-kind_at-requires : goal.decode-kind_at-requires
decode-kind_at-requires t c = steps.choices_room c.expression-test.ensures c.requires

pub decode-overflow_sub-depth : goal.decode-overflow_sub-depth
decode-overflow_sub-depth t c = omega (arith, steps.decode_deep c.requires)

pub decode-selected-inside-requires : goal.decode-selected-inside-requires
decode-selected-inside-requires t c = (omega (arith, steps.decode_deep c.requires), steps.selected_asked c.expression-test.ensures c.kind_at.ensures c.has_selector.ensures c.if-has_selector.true c.requires)

pub decode-returns-then-has_selector : goal.decode-returns-then-has_selector
decode-returns-then-has_selector t c = record { kept = steps.decode_keeps c.requires c.selected-inside.ensures.kept; answer = λ text v d. steps.selected_answers c.expression-test.ensures c.kind_at.ensures c.has_selector.ensures c.earlier.ensures v d c.if-has_selector.true c.selected-inside.ensures.answer }

pub decode-overflow_sub-depth-2 : goal.decode-overflow_sub-depth-2
decode-overflow_sub-depth-2 t c = omega (arith, steps.decode_deep c.requires)

pub decode-counted-inside-requires : goal.decode-counted-inside-requires
decode-counted-inside-requires t c = (omega (arith, steps.decode_deep c.requires), steps.counted_asked c.expression-test.ensures c.kind_at.ensures c.has_selector.ensures c.if-has_selector.false c.requires)

pub decode-returns : goal.decode-returns
decode-returns t c = record { kept = steps.decode_keeps c.requires c.counted-inside.ensures.kept; answer = λ text v d. steps.counted_answers c.expression-test.ensures c.kind_at.ensures c.has_selector.ensures c.earlier-2.ensures v d c.if-has_selector.false c.counted-inside.ensures.answer }

pub selected-loop-room-init : goal.selected-loop-room-init
selected-loop-room-init t c = steps.selected_begun

pub selected-keep_start-requires : goal.selected-keep_start-requires
selected-keep_start-requires t c = steps.selected_large c.loop-room.invariant c.requires

pub selected-selected_fault-fault-requires : goal.selected-selected_fault-fault-requires
selected-selected_fault-fault-requires t c = steps.selected_here c.loop-room.invariant c.requires

pub selected-behind_selector-body-requires : goal.selected-behind_selector-body-requires
selected-behind_selector-body-requires t c = steps.selector_asked c.loop-room.invariant c.requires

pub selected-action-inside-requires : goal.selected-action-inside-requires
selected-action-inside-requires t c = (omega arith, steps.selected_action c.loop-room.invariant c.keep_start.ensures c.behind_selector-body.ensures c.requires)

pub selected-overflow_add-number : goal.selected-overflow_add-number
selected-overflow_add-number t c = record { fits = omega (arith, steps.selected_number c.loop-room.invariant c.requires) }

pub selected-kind_at-requires : goal.selected-kind_at-requires
selected-kind_at-requires t c = (steps.selected_next c.loop-room.invariant c.keep_start.ensures c.behind_selector-body.ensures (c.action-inside.ensures.kept, c.action-inside.ensures.answer) c.requires).2

pub selected-overlap_fault-overlap-requires : goal.selected-overlap_fault-overlap-requires
selected-overlap_fault-overlap-requires t c = steps.overlap_asked c.loop-room.invariant c.keep_start.ensures c.behind_selector-body.ensures (c.action-inside.ensures.kept, c.action-inside.ensures.answer) c.requires

pub selected-overflow_add-result : goal.selected-overflow_add-result
selected-overflow_add-result t c = record { fits = omega (arith, (steps.selected_next c.loop-room.invariant c.keep_start.ensures c.behind_selector-body.ensures (c.action-inside.ensures.kept, c.action-inside.ensures.answer) c.requires).0) }

pub selected-returns-then-kind_at-eq-END : goal.selected-returns-then-kind_at-eq-END
selected-returns-then-kind_at-eq-END t c = record {
  kept = steps.selected_keeps c.loop-room.invariant c.keep_start.ensures c.behind_selector-body.ensures (c.action-inside.ensures.kept, c.action-inside.ensures.answer) c.requires;
  answer = steps.selected_ends c.loop-room.invariant c.keep_start.ensures c.behind_selector-body.ensures (c.action-inside.ensures.kept, c.action-inside.ensures.answer) c.selected_fault-fault.ensures c.kind_at.ensures (c.earlier-key.ensures ∙ ap (min _) c.earlier.ensures) c.if-kind_at-eq-END.true c.overlap_fault-overlap.ensures c.earlier-then-kind_at-eq-END.ensures;
}

pub selected-overflow_add-at : goal.selected-overflow_add-at
selected-overflow_add-at t c = record { fits = omega (arith, (steps.selected_next c.loop-room.invariant c.keep_start.ensures c.behind_selector-body.ensures (c.action-inside.ensures.kept, c.action-inside.ensures.answer) c.requires).0) }

pub selected-loop-room-smaller : goal.selected-loop-room-smaller
selected-loop-room-smaller t c = omega (arith, (steps.selected_next c.loop-room.invariant c.keep_start.ensures c.behind_selector-body.ensures (c.action-inside.ensures.kept, c.action-inside.ensures.answer) c.requires).0, (steps.selected_next c.loop-room.invariant c.keep_start.ensures c.behind_selector-body.ensures (c.action-inside.ensures.kept, c.action-inside.ensures.answer) c.requires).1)

pub selected-loop-room-preserved : goal.selected-loop-room-preserved
selected-loop-room-preserved t c = steps.selected_again c.loop-room.invariant c.keep_start.ensures c.behind_selector-body.ensures (c.action-inside.ensures.kept, c.action-inside.ensures.answer) c.selected_fault-fault.ensures c.kind_at.ensures (c.earlier-key.ensures ∙ ap (min _) c.earlier.ensures) c.if-kind_at-eq-END.false c.requires
