-- `nesting::labels::put_label` meets its contract.
use borrow.Author.Rules.{rules}
use Rattle.nesting.specs.Laws.Holding.{label_put}
use Rattle.nesting.proofs.labels.put_label.Goals as goal

pub returns : goal.returns
returns c = search (rules, label_put)
