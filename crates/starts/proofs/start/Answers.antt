-- `starts::start` meets its contract: no word of the declarations before the k-th is long.
-- Assumes nothing.
use borrow.Author.Rules.{rules}
use native.Mathlib.Omega.{arith}
use Rattle.table.specs.Laws.Kth.{kth_room, kth_view}
use Rattle.declare.specs.Laws.Small.{small_there}
use Rattle.starts.proofs.Walking.{refused_60, none_walked, to_seek, refused_61, walked_more, all_walked}
use Rattle.starts.proofs.start.Goals as goal

pub overflow_mul-words : goal.overflow_mul-words
overflow_mul-words c = omega (arith, c.words.ensures.1)

pub returns-then-carriers-words : goal.returns-then-carriers-words
returns-then-carriers-words c = refused_60 _ c.words.ensures c.if-carriers-words.true

pub loop-k-init : goal.loop-k-init
loop-k-init c = none_walked _ c.words.ensures c.if-carriers-words.false

pub get16-p-requires : goal.get16-p-requires
get16-p-requires c = search (rules, kth_room)

pub words_in-requires : goal.words_in-requires
words_in-requires c = search (rules, small_there)

pub overflow_add-end : goal.overflow_add-end
overflow_add-end c = omega (arith, c.loop-k.invariant.room, c.words_in.ensures.1)

pub bits_of-requires : goal.bits_of-requires
bits_of-requires c = search (rules, kth_view)

pub first_long-long-requires : goal.first_long-long-requires
first_long-long-requires c =
    to_seek c.loop-k.invariant c.loop-k-test.true c.get16-p.ensures c.words_in.ensures.0
    c.bits_of.ensures c.last_of-last.ensures c.requires

pub overflow_mul-result : goal.overflow_mul-result
overflow_mul-result c = omega (arith, c.loop-k.invariant.room, c.words_in.ensures.1)

pub returns-then-long-end : goal.returns-then-long-end
returns-then-long-end c =
    refused_61 c.loop-k.invariant c.loop-k-test.true c.get16-p.ensures c.words_in.ensures.0
    c.bits_of.ensures c.last_of-last.ensures c.first_long-long.ensures c.if-long-end.true

pub loop-k-preserved : goal.loop-k-preserved
loop-k-preserved c = search (rules, walked_more)

pub returns : goal.returns
returns c = all_walked c.loop-k.invariant c.loop-k-test.false
