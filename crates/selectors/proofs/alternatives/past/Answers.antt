-- `selectors::alternatives::past` meets its contract.
-- Assumes nothing.
use Rattle.selectors.specs.Laws.Alternatives.{items_from, none_past}
use Rattle.selectors.proofs.alternatives.past.Goals as goal

pub past_length-requires : goal.past_length-requires
past_length-requires c = (c.requires.0, items_from c.requires.1 _ c.in-Some.is c.items_of.ensures)

pub returns-in-Some : goal.returns-in-Some
returns-in-Some c = λ v. c.past_length.ensures (items_from v _ c.in-Some.is c.items_of.ensures)

pub returns-in-None : goal.returns-in-None
returns-in-None c = λ v. none_past v _ _ c.in-None.is c.items_of.ensures
