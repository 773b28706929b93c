-- `ways::labels::lookable` meets its contract: up to the label that the hint leads to, or all.
-- Assumes nothing.
use mathlib.Core.Path.{ap, ◌∙◌}
use Rattle.cells.specs.Cells.{cell}
use Rattle.ways.specs.Laws.Stack.{looking_hinted, looking_all}
use Rattle.ways.proofs.labels.lookable.Goals as goal

pub returns-then-k-n : goal.returns-then-k-n
returns-then-k-n c = λ text. looking_hinted (c.get16-k.ensures ∙ ap (cell 2 _) c.hint_cell.ensures.0) c.if-k-n.true

pub returns : goal.returns
returns c = λ text. looking_all _ _ _ _ _
