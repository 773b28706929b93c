-- `naming::names::is_name` meets its contract: what is left of the word and of the name is the same iff the two are.
-- Assumes nothing.
use borrow.Author.Rules.{rules}
use Rattle.naming.specs.Laws.Bytes.{other_length, none_compared, one_differs, one_same, all_same}
use Rattle.naming.proofs.names.is_name.Goals as goal

pub returns-then-name-n : goal.returns-then-name-n
returns-then-name-n c = search (rules, other_length)

pub loop-k-init : goal.loop-k-init
loop-k-init c = search (rules, none_compared)

pub returns-then-not-same_letter : goal.returns-then-not-same_letter
returns-then-not-same_letter c = search (rules, one_differs)

pub loop-k-preserved : goal.loop-k-preserved
loop-k-preserved c = search (rules, one_same)

pub returns : goal.returns
returns c = search (rules, all_same)
