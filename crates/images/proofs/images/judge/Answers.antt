-- `images::images::judge` meets its contract: the blocks passed are sound, so the others decide.
-- Assumes nothing.
use Rattle.std.proofs.lemmas.Bool.{not_from_false, not_from_true}
use borrow.Author.Rules.{rules}
use mathlib.Core.Path.{sym, ◌∙◌}
use borrow.Author.Tests.{not-true, not-false}
use native.Mathlib.Omega.{arith}
use Rattle.images.specs.Laws.Turns.{none_judged, unchecked, unformed, more_judged, all_judged}
use Rattle.images.proofs.images.judge.Goals as goal

pub loop-i-init : goal.loop-i-init
loop-i-init c = search (rules, none_judged)

pub returns-then-not-is_checked : goal.returns-then-not-is_checked
returns-then-not-is_checked c = unchecked c.loop-i.invariant (omega arith) (sym c.is_checked.ensures ∙ not-true _ (not_from_false _ c.if-not-is_checked.true))

pub returns-then-not-is_formed : goal.returns-then-not-is_formed
returns-then-not-is_formed c =
    unformed c.loop-i.invariant (omega arith) (sym c.is_checked.ensures ∙ not-false _ (not_from_true _ c.if-not-is_checked.false)) _ c.used_in.ensures
    (sym c.is_formed.ensures ∙ not-true _ (not_from_false _ c.if-not-is_formed.true))

pub loop-i-preserved : goal.loop-i-preserved
loop-i-preserved c =
    more_judged c.loop-i.invariant (omega arith) (sym c.is_checked.ensures ∙ not-false _ (not_from_true _ c.if-not-is_checked.false)) _ c.used_in.ensures
    (sym c.is_formed.ensures ∙ not-false _ (not_from_true _ c.if-not-is_formed.false))

pub returns : goal.returns
returns c = search (rules, all_judged)
