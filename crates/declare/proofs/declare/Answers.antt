-- `declare::declare` meets its contract: what was spelled, found, resolved and judged is the answer.
-- Assumes nothing.
use borrow.Author.Rules.{rules}
use Rattle.declare.proofs.Telling.{tabled, described, to_mean, listed, refused, ready}
use Rattle.declare.proofs.declare.Goals as goal

pub spell-requires : goal.spell-requires
spell-requires c = record { tabled = tabled c.requires.described; room_size_in_bounds = c.requires.room_size_in_bounds }

pub find-m-requires : goal.find-m-requires
find-m-requires c = record { by_index = (_, _, _, described c.spell.ensures.kept c.spell.ensures.spelled c.requires.described); most_tokens_in_bounds = search rules }

pub give_meanings-requires : goal.give_meanings-requires
give_meanings-requires c = to_mean c.spell.ensures.kept c.spell.ensures.spelled c.find-m.ensures c.requires.described

pub fault30-key-requires : goal.fault30-key-requires
fault30-key-requires c = listed c.spell.ensures.kept c.spell.ensures.spelled c.find-m.ensures c.give_meanings.ensures.inside_only c.give_meanings.ensures.meant_to c.requires.described

pub returns-then-key : goal.returns-then-key
returns-then-key c = refused c.spell.ensures.kept c.spell.ensures.spelled c.find-m.ensures c.give_meanings.ensures.inside_only c.give_meanings.ensures.meant_to c.fault30-key.ensures c.if-key.true c.fault_of.ensures

pub returns : goal.returns
returns c = ready c.spell.ensures.kept c.spell.ensures.spelled c.find-m.ensures c.give_meanings.ensures.inside_only c.give_meanings.ensures.meant_to c.fault30-key.ensures c.if-key.false
