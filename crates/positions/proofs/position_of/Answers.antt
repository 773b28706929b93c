-- `positions::position_of` meets its contract: by the number, and by where the text ends.
-- Assumes nothing.
use mathlib.Core.Path.{◌∙◌, sym, ap}
use native.Mathlib.Omega.{arith}
use Rattle.positions.specs.Cursors.{position_here}
use Rattle.laws.specs.Positions.{position_elsewhere, position_in_text, after_end}
use Rattle.positions.proofs.position_of.Goals as goal

pub returns-then-is_elsewhere : goal.returns-then-is_elsewhere
returns-then-is_elsewhere c =
    ap position_here c.start.ensures ∙ sym (position_elsewhere _ _ _ (sym c.is_elsewhere.ensures ∙ c.if-is_elsewhere.true))

pub returns-then-text-place : goal.returns-then-text-place
returns-then-text-place c =
    c.walked.ensures ∙ sym (after_end _ _ _ (omega arith)) ∙ sym (position_in_text _ _ _ (sym c.is_elsewhere.ensures ∙ c.if-is_elsewhere.false))

pub returns : goal.returns
returns c =
    c.walked-2.ensures ∙ sym (position_in_text _ _ _ (sym c.is_elsewhere.ensures ∙ c.if-is_elsewhere.false))
