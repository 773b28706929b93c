-- `pair_tables::lengths::start_behind` meets its contract: no own word of the first k declarations is long.
-- Assumes nothing.
use native.Mathlib.Omega.{arith}
use Prim.Native.Nat.{◌-◌}
use Rattle.table.specs.Laws.Kth.{table_length, kth_room, kth_view}
use Rattle.declare.specs.Laws.Small.{small_there}
use Rattle.pair_tables.specs.Laws.Lengths.{none_judging, to_seek, refused_61, judging_more, all_judging}
use Rattle.pair_tables.proofs.lengths.start_behind.Goals as goal

pub loop-k-init : goal.loop-k-init
loop-k-init c = none_judging c.requires.0 c.requires.1 c.requires.2

pub get16-p-requires : goal.get16-p-requires
get16-p-requires c = kth_room c.requires.1.ready c.loop-k-test.true

pub get16-first-requires : goal.get16-first-requires
get16-first-requires c = omega (arith, c.requires.2.room, table_length c.requires.1.ready, c.loop-k-test.true)

pub own_words-requires : goal.own_words-requires
own_words-requires c = small_there c.requires.1.ready c.loop-k-test.true c.get16-p.ensures

pub overflow_add-end : goal.overflow_add-end
overflow_add-end c = omega (arith, c.loop-k.invariant.small, c.own_words.ensures.1)

pub bits_of-requires : goal.bits_of-requires
bits_of-requires c = kth_view c.requires.1.ready c.loop-k-test.true c.get16-p.ensures

pub first_long-long-requires : goal.first_long-long-requires
first_long-long-requires c =
    to_seek c.loop-k.invariant c.loop-k-test.true c.get16-p.ensures c.get16-first.ensures
    c.own_words.ensures.0 c.bits_of.ensures c.last_of-last.ensures c.requires.0 c.requires.1 c.requires.2

pub overflow_mul-result : goal.overflow_mul-result
overflow_mul-result c = omega (arith, c.if-long-end.true, c.loop-k.invariant.small, c.own_words.ensures.1)

pub returns-then-long-end : goal.returns-then-long-end
returns-then-long-end c =
    refused_61 c.loop-k.invariant c.loop-k-test.true
    c.get16-p.ensures c.get16-first.ensures c.own_words.ensures.0 c.bits_of.ensures
    c.last_of-last.ensures c.first_long-long.ensures c.if-long-end.true

pub loop-k-preserved : goal.loop-k-preserved
loop-k-preserved c =
    judging_more c.loop-k.invariant c.loop-k-test.true
    c.get16-p.ensures c.get16-first.ensures c.own_words.ensures.0 c.bits_of.ensures
    c.last_of-last.ensures c.first_long-long.ensures c.if-long-end.false c.requires.0 c.requires.1 c.requires.2

pub returns : goal.returns
returns c = all_judging c.loop-k.invariant c.loop-k-test.false
