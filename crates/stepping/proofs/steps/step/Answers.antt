-- `stepping::steps::step` meets its contract: the kind tells the instruction.
-- Assumes nothing.
use mathlib.Core.Path.{sym, ◌∙◌}
use Rattle.stepping.specs.Laws.Steps.{name_room, go_answer, stop_answer}
use Rattle.stepping.proofs.steps.step.Goals as goal

pub kind_at-requires : goal.kind_at-requires
kind_at-requires c = name_room c.requires.0 (sym c.kind_at-kind.ensures ∙ c.if-kind-eq-NAME.true)

pub call_step-requires : goal.call_step-requires
call_step-requires c = (_, (_, (c.requires.0, (sym c.kind_at-kind.ensures ∙ c.if-kind-eq-NAME.true, sym c.kind_at.ensures ∙ c.if-kind_at-eq-LPAR.true))))

pub returns-then-kind_at-eq-LPAR : goal.returns-then-kind_at-eq-LPAR
returns-then-kind_at-eq-LPAR c = λ v. c.call_step.ensures _ _ v (sym c.kind_at-kind.ensures ∙ c.if-kind-eq-NAME.true) (sym c.kind_at.ensures ∙ c.if-kind_at-eq-LPAR.true)

pub transfer_step-requires : goal.transfer_step-requires
transfer_step-requires c = (_, (c.requires.0, (sym c.kind_at-kind.ensures ∙ c.if-kind-eq-NAME.true, ((λ e. c.if-kind_at-eq-LPAR.false (c.kind_at.ensures ∙ e)), c.requires.1))))

pub returns-then-kind-eq-NAME : goal.returns-then-kind-eq-NAME
returns-then-kind-eq-NAME c = λ v. c.transfer_step.ensures _ v (sym c.kind_at-kind.ensures ∙ c.if-kind-eq-NAME.true) (λ e. c.if-kind_at-eq-LPAR.false (c.kind_at.ensures ∙ e))

pub if_step-requires : goal.if_step-requires
if_step-requires c = (_, (c.requires.0, sym c.kind_at-kind.ensures ∙ c.if-kind-eq-IF.true))

pub returns-then-kind-eq-IF : goal.returns-then-kind-eq-IF
returns-then-kind-eq-IF c = λ v. c.if_step.ensures _ v (sym c.kind_at-kind.ensures ∙ c.if-kind-eq-IF.true)

pub decode_step-requires : goal.decode_step-requires
decode_step-requires c = (_, (c.requires.0, sym c.kind_at-kind.ensures ∙ c.if-kind-eq-DECODE.true))

pub returns-then-kind-eq-DECODE : goal.returns-then-kind-eq-DECODE
returns-then-kind-eq-DECODE c = λ v. c.decode_step.ensures _ v (sym c.kind_at-kind.ensures ∙ c.if-kind-eq-DECODE.true)

pub returns-then-kind-eq-STOP : goal.returns-then-kind-eq-STOP
returns-then-kind-eq-STOP c = λ v. stop_answer v (sym c.kind_at-kind.ensures ∙ c.if-kind-eq-STOP.true)

pub returns : goal.returns
returns c =
    λ v. go_answer v (λ e. c.if-kind-eq-NAME.false (c.kind_at-kind.ensures ∙ e)) (λ e. c.if-kind-eq-IF.false (c.kind_at-kind.ensures ∙ e))
    (λ e. c.if-kind-eq-DECODE.false (c.kind_at-kind.ensures ∙ e)) (λ e. c.if-kind-eq-STOP.false (c.kind_at-kind.ensures ∙ e)) c.link_at.ensures
