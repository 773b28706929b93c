-- `pair_tables::joining::join_behind` meets its contract: the first k declarations of the second text are joined.
-- Assumes nothing.
use native.Mathlib.Omega.{arith}
use Prim.Native.Nat.{◌-◌}
use Rattle.table.specs.Laws.Kth.{kth_room}
use Rattle.declare.specs.Laws.Small.{small_there}
use Rattle.pair_tables.specs.Laws.Standing.{kth_in, record_in, place_near}
use Rattle.pair_tables.specs.Laws.Joins.{none_joining, to_reach, joining_more, all_joining}
use Rattle.pair_tables.proofs.joining.join_behind.Goals as goal

pub loop-k-init : goal.loop-k-init
loop-k-init c = none_joining _ (λ v. (c.requires.m1_in_bounds.0 v).1) c.requires.stands.0

pub get16-q-requires : goal.get16-q-requires
get16-q-requires c = kth_room c.requires.stands.1.ready c.loop-k-test.true

pub meet-met-requires : goal.meet-met-requires
meet-met-requires c = (c.requires.stands.0, kth_in c.requires.stands.1 c.loop-k-test.true c.get16-q.ensures)

pub first_of-requires : goal.first_of-requires
first_of-requires c =
    to_reach c.loop-k.invariant c.loop-k-test.true c.get16-q.ensures c.meet-met.ensures (λ v. (c.requires.m1_in_bounds.0 v).0)
    c.requires.stands.0 c.requires.stands.1

pub put16-requires : goal.put16-requires
put16-requires c = omega (arith, c.requires.m1_in_bounds.1, c.loop-k.invariant.long, c.loop-k-test.true)

pub place_at-requires : goal.place_at-requires
place_at-requires c = record_in (kth_in c.requires.stands.1 c.loop-k-test.true c.get16-q.ensures)

pub key_with-key-requires : goal.key_with-key-requires
key_with-key-requires c =
    let near = place_near (kth_in c.requires.stands.1 c.loop-k-test.true c.get16-q.ensures) in
    omega (arith, near, c.place_at.ensures)

pub words_in-requires : goal.words_in-requires
words_in-requires c = small_there c.requires.stands.1.ready c.loop-k-test.true c.get16-q.ensures

pub taken-free-requires : goal.taken-free-requires
taken-free-requires c = (omega (arith, c.loop-k.invariant.room), c.words_in.ensures.1)

pub loop-k-preserved : goal.loop-k-preserved
loop-k-preserved c =
    joining_more c.loop-k.invariant c.loop-k-test.true c.get16-q.ensures c.meet-met.ensures (λ v. (c.requires.m1_in_bounds.0 v).0)
    c.requires.stands.0 c.requires.stands.1 c.requires.m1_in_bounds.1 c.first_of.ensures c.put16.ensures c.place_at.ensures
    c.key_with-key.ensures c.words_in.ensures.0 c.taken-free.ensures

pub returns : goal.returns
returns c = (all_joining c.loop-k.invariant c.loop-k-test.false, c.loop-k.invariant.long)
