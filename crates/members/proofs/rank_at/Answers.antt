-- `members::rank_at` meets its contract: its own rank, or that of no token.
-- Assumes nothing.
use mathlib.Core.Path.{sym, ◌∙◌}
use native.Mathlib.Omega.{arith}
use Rattle.members.specs.Laws.Cells.{rank_is, rank_behind}
use Rattle.members.proofs.rank_at.Goals as goal

pub returns-then-n-i : goal.returns-then-n-i
returns-then-n-i c = sym (rank_behind _ _ _ (omega arith))

pub returns : goal.returns
returns c = c.get16.ensures ∙ sym (rank_is _ _ _ (omega arith))
