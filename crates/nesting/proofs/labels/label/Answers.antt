-- `nesting::labels::label` meets its contract.
use borrow.Author.Rules.{rules}
use Rattle.nesting.specs.Laws.Labels.{label_shown}
use Rattle.nesting.proofs.labels.label.Goals as goal

pub returns : goal.returns
returns c = search (rules, label_shown)
