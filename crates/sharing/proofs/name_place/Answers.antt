-- `sharing::name_place` meets its contract.
use borrow.Author.Rules.{rules}
use Rattle.chains.specs.Laws.Least.{name_room, place_small, place_is}
use Rattle.sharing.proofs.name_place.Goals as goal

pub place_at-requires : goal.place_at-requires
place_at-requires c = search (rules, name_room)

pub returns : goal.returns
returns c = (
  place_small c.requires.1 c.get16.ensures c.place_at.ensures c.requires.0,
  place_is c.requires.1 c.get16.ensures c.place_at.ensures,
)
