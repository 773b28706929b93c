-- `plain::simple::simple` meets its contract: the first two tokens tell which action it is.
-- Assumes nothing.
use native.Mathlib.Omega.{arith}
use mathlib.Core.Path.{sym, ◌∙◌}
use Rattle.plain.specs.Laws.Forms.{action_inside, first_room, second_room, jump_view, jump_answer, plain_answer, call_view, call_answer, transfer_here}
use Rattle.plain.proofs.simple.simple.Goals as goal

pub kind_at-kind-requires : goal.kind_at-kind-requires
kind_at-kind-requires c = first_room c.requires.1

pub overflow_add-i : goal.overflow_add-i
overflow_add-i c = omega (arith, action_inside c.requires.1)

pub kind_at-requires : goal.kind_at-requires
kind_at-requires c = second_room c.requires.1

pub call_fault-requires : goal.call_fault-requires
call_fault-requires c = call_view c.requires.1 c.requires.2 c.kind_at-kind.ensures c.if-kind-eq-NAME.true c.kind_at.ensures c.if-kind_at-eq-LPAR.true

pub overflow_add-result : goal.overflow_add-result
overflow_add-result c = omega (arith, action_inside c.requires.1)

pub returns-then-kind_at-eq-LPAR : goal.returns-then-kind_at-eq-LPAR
returns-then-kind_at-eq-LPAR c =
    λ text v p. call_answer v p c.kind_at-kind.ensures c.if-kind-eq-NAME.true c.kind_at.ensures c.if-kind_at-eq-LPAR.true
    (c.call_fault.ensures (call_view v p c.kind_at-kind.ensures c.if-kind-eq-NAME.true c.kind_at.ensures c.if-kind_at-eq-LPAR.true))

pub transfer-requires : goal.transfer-requires
transfer-requires c = (transfer_here c.requires.1 c.requires.2 c.kind_at-kind.ensures c.if-kind-eq-NAME.true c.kind_at.ensures c.if-kind_at-eq-LPAR.false).view

pub returns-then-kind-eq-NAME : goal.returns-then-kind-eq-NAME
returns-then-kind-eq-NAME c =
    λ text v p. let t = transfer_here v p c.kind_at-kind.ensures c.if-kind-eq-NAME.true c.kind_at.ensures c.if-kind_at-eq-LPAR.false in
    t.answers _ (c.transfer.ensures t.view)

pub jump_fault-requires : goal.jump_fault-requires
jump_fault-requires c = jump_view c.requires.1 c.requires.2 c.kind_at-kind.ensures c.if-kind-eq-NAME.false (sym c.is_jump.ensures ∙ c.if-is_jump.true)

pub overflow_add-result-then-is_jump : goal.overflow_add-result-then-is_jump
overflow_add-result-then-is_jump c = omega (arith, action_inside c.requires.1)

pub returns-then-is_jump : goal.returns-then-is_jump
returns-then-is_jump c =
    λ text v p. let j = sym c.is_jump.ensures ∙ c.if-is_jump.true in
    jump_answer v p c.kind_at-kind.ensures c.if-kind-eq-NAME.false j (c.jump_fault.ensures (jump_view v p c.kind_at-kind.ensures c.if-kind-eq-NAME.false j))

pub overflow_add-result-2 : goal.overflow_add-result-2
overflow_add-result-2 c = omega (arith, action_inside c.requires.1)

pub returns : goal.returns
returns c = λ text v p. plain_answer v p c.kind_at-kind.ensures c.if-kind-eq-NAME.false (sym c.is_jump.ensures ∙ c.if-is_jump.false)
