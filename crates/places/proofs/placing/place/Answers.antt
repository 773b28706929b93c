-- `places::placing::place` meets its contract: token by token.
-- Assumes nothing.
use borrow.Author.Rules.{rules}
use Rattle.places.specs.Laws.Placing.{none_placed, still, placed_more, all_placed}
use Rattle.places.proofs.placing.place.Goals as goal

pub first_words-requires : goal.first_words-requires
first_words-requires c = (c.requires.0.scene, search rules)

pub loop-i-init : goal.loop-i-init
loop-i-init c = none_placed c.first_words.ensures

pub place_one-requires : goal.place_one-requires
place_one-requires c = (still c.loop-i.invariant c.requires.0, c.loop-i-test.true)

pub loop-i-preserved : goal.loop-i-preserved
loop-i-preserved c = placed_more c.loop-i.invariant c.loop-i-test.true (search rules) c.place_one.ensures

pub returns : goal.returns
returns c = all_placed c.loop-i.invariant c.loop-i-test.false
