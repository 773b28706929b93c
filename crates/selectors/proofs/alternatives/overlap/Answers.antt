-- `selectors::alternatives::overlap` meets its contract.
-- Assumes nothing.
use Rattle.selectors.specs.Laws.Alternatives.{two_lists, first_empty, second_empty}
use Rattle.selectors.proofs.alternatives.overlap.Goals as goal

pub some_meet-requires : goal.some_meet-requires
some_meet-requires c = two_lists c.requires _ _ c.in-Some.is c.items_of.ensures c.in-Some-items_of.is c.items_of-in-Some.ensures

pub returns-in-Some-items_of : goal.returns-in-Some-items_of
returns-in-Some-items_of c = λ v. c.some_meet.ensures (two_lists v _ _ c.in-Some.is c.items_of.ensures c.in-Some-items_of.is c.items_of-in-Some.ensures)

pub returns-in-None-items_of : goal.returns-in-None-items_of
returns-in-None-items_of c = λ v. second_empty v _ c.in-None-items_of.is c.items_of-in-Some.ensures

pub returns-in-None : goal.returns-in-None
returns-in-None c = λ v. first_empty v _ c.in-None.is c.items_of.ensures
