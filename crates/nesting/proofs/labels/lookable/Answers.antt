-- `nesting::labels::lookable` meets its contract: up to the label that the hint leads to, or all.
use borrow.Author.Rules.{rules}
use mathlib.Core.Path.{ap, ◌∙◌}
use Rattle.cells.specs.Cells.{cell}
use Rattle.nesting.specs.Laws.Labels.{seek_hinted, seek_all}
use Rattle.nesting.proofs.labels.lookable.Goals as goal

pub returns-then-k-count : goal.returns-then-k-count
returns-then-k-count c = seek_hinted c.requires (c.get16-k.ensures ∙ ap (cell 2 _) c.hint_cell.ensures.0) c.if-k-count.true

pub returns : goal.returns
returns c = search (rules, seek_all)
