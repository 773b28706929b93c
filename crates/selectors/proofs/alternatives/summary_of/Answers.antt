-- `selectors::alternatives::summary_of` meets its contract.
-- Assumes nothing.
use Rattle.selectors.specs.Laws.Alternatives.{items_from}
use Rattle.summaries.specs.Laws.Summaries.{tells_nothing}
use Rattle.selectors.proofs.alternatives.summary_of.Goals as goal

pub of_items-requires : goal.of_items-requires
of_items-requires c = items_from c.requires _ c.in-Some.is c.items_of.ensures

pub returns-in-Some : goal.returns-in-Some
returns-in-Some c = λ v. c.of_items.ensures (items_from v _ c.in-Some.is c.items_of.ensures)

pub returns-in-None : goal.returns-in-None
returns-in-None c = λ v. tells_nothing _ _ c.«open».ensures
