-- `racing::members::earlier_at` meets its contract.
use Rattle.racing.specs.Laws.Members.{at_other, at_place}
use Rattle.racing.proofs.members.earlier_at.Goals as goal

pub returns-then-place_of-place : goal.returns-then-place_of-place
returns-then-place_of-place c = at_other c.requires.0.reading c.place_of.ensures.1 c.if-place_of-place.true

pub returns : goal.returns
returns c = at_place c.place_of.ensures.1 c.if-place_of-place.false c.earliest.ensures
