-- `places::counting::storage_words` meets its contract: by the form of the bits.
-- Assumes nothing.
use borrow.Author.Rules.{rules}
use Rattle.places.specs.Laws.Counting.{storage_missing}
use Rattle.places.proofs.counting.storage_words.Goals as goal

pub returns-in-Missing : goal.returns-in-Missing
returns-in-Missing c = (search rules, search (rules, storage_missing))
