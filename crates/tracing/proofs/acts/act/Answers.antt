-- `tracing::acts::act` meets its contract: the kinds of its first two tokens tell a transfer.
-- Assumes nothing.
use mathlib.Core.Path.{sym, ◌∙◌}
use Rattle.stepping.specs.Laws.Steps.{name_room}
use Rattle.tracing.specs.Laws.Acts.{quiet_told}
use Rattle.tracing.proofs.acts.act.Goals as goal

pub returns-then-kind_at-ne-NAME : goal.returns-then-kind_at-ne-NAME
returns-then-kind_at-ne-NAME c = λ v. quiet_told v (λ k. absurd (c.if-kind_at-ne-NAME.true (c.kind_at.ensures ∙ k))) c.requires.1.1.1 c.step.ensures

pub kind_at-requires-2 : goal.kind_at-requires-2
kind_at-requires-2 c = name_room c.requires.0 (sym c.kind_at.ensures ∙ c.if-kind_at-ne-NAME.false)

pub returns-then-kind_at-eq-LPAR : goal.returns-then-kind_at-eq-LPAR
returns-then-kind_at-eq-LPAR c = λ v. quiet_told v (λ k. sym c.kind_at-2.ensures ∙ c.if-kind_at-eq-LPAR.true) c.requires.1.1.1 c.step-then-kind_at-eq-LPAR.ensures

pub transfer_act-requires : goal.transfer_act-requires
transfer_act-requires c = ((_, (c.requires.0, (sym c.kind_at.ensures ∙ c.if-kind_at-ne-NAME.false, λ e. c.if-kind_at-eq-LPAR.false (c.kind_at-2.ensures ∙ e)))), c.requires.1)

pub returns : goal.returns
returns c = λ v. c.transfer_act.ensures _ v (sym c.kind_at.ensures ∙ c.if-kind_at-ne-NAME.false) (λ e. c.if-kind_at-eq-LPAR.false (c.kind_at-2.ensures ∙ e))
