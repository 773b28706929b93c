-- `members::up_at` meets its contract: its own member, or that of no token.
-- Assumes nothing.
use mathlib.Core.Path.{sym, ◌∙◌}
use native.Mathlib.Omega.{arith}
use Rattle.members.specs.Laws.Cells.{up_is, up_behind}
use Rattle.members.proofs.up_at.Goals as goal

pub returns-then-n-i : goal.returns-then-n-i
returns-then-n-i c = sym (up_behind _ _ _ (omega arith))

pub returns : goal.returns
returns c = c.get16.ensures ∙ sym (up_is _ _ _ (omega arith))
