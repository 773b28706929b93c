-- `chains::chains::chain_at` meets its contract.
use borrow.Author.Rules.{rules}
use Rattle.chains.specs.Laws.Least.{name_room, place_small, chained, unchained}
use Rattle.chains.proofs.chains.chain_at.Goals as goal

pub place_at-requires : goal.place_at-requires
place_at-requires c = search (rules, name_room)

pub number_key-requires : goal.number_key-requires
number_key-requires c = search (rules, place_small)

pub returns-then-has : goal.returns-then-has
returns-then-has c =
    λ v d. chained c.requires.1 c.get16.ensures _
    c.has.ensures c.if-has.true c.place_at.ensures c.number_key.ensures v d

pub returns : goal.returns
returns c = λ v d f. unchained _ _ c.has.ensures c.if-has.false d.name.place
