-- `scopes::labels::listed` meets its contract.
use borrow.Author.Rules.{rules}
use Rattle.scopes.specs.Laws.Labels.{found_there, seek_on, nowhere_found}
use Rattle.scopes.proofs.labels.listed.Goals as goal

pub returns-then-same_word : goal.returns-then-same_word
returns-then-same_word c = search (rules, found_there)

pub loop-j-preserved : goal.loop-j-preserved
loop-j-preserved c = search (rules, seek_on)

pub returns : goal.returns
returns c = search (rules, nowhere_found)
