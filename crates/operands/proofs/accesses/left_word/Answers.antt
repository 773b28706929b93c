-- `operands::accesses::left_word` meets its contract: the fifth and the sixth byte of the cell.
-- Assumes nothing.
use native.Mathlib.Omega.{arith}
use mathlib.Core.Path.{◌∙◌}
use Rattle.operands.specs.Laws.Cells.{left_bytes}
use Rattle.operands.proofs.accesses.left_word.Goals as goal

pub returns : goal.returns
returns c = c.get16.ensures ∙ left_bytes _ (λ k. omega (arith, c.shared_slice_known-1.given k)) _
