-- `operands::accesses::right_word` meets its contract: the last two bytes of the cell.
-- Assumes nothing.
use native.Mathlib.Omega.{arith}
use mathlib.Core.Path.{◌∙◌}
use Rattle.operands.specs.Laws.Cells.{right_bytes}
use Rattle.operands.proofs.accesses.right_word.Goals as goal

pub returns : goal.returns
returns c = c.get16.ensures ∙ right_bytes _ (λ k. omega (arith, c.shared_slice_known-1.given k)) _
