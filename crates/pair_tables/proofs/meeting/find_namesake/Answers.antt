-- `pair_tables::meeting::find_namesake` meets its contract: none of the first k declarations is storage under the name.
-- Assumes nothing.
use Rattle.std.proofs.lemmas.Bool.{not_from_false, not_from_true}
use Prim.Native.Nat.{◌-◌}
use Rattle.table.specs.Laws.Kth.{kth_room}
use Rattle.pair_tables.specs.Standing.{view_of}
use Rattle.pair_tables.specs.Laws.Standing.{kth_in}
use Rattle.pair_tables.specs.Laws.Seeking.{never_sought, none_sought, sought_here, sought_more, all_sought}
use Rattle.pair_tables.proofs.meeting.find_namesake.Goals as goal

pub is_storage-requires : goal.is_storage-requires
is_storage-requires c = view_of c.requires.1

pub returns-then-not-is_storage : goal.returns-then-not-is_storage
returns-then-not-is_storage c = never_sought c.is_storage.ensures (not_from_false _ c.if-not-is_storage.true)

pub loop-k-init : goal.loop-k-init
loop-k-init c = none_sought

pub get16-p-requires : goal.get16-p-requires
get16-p-requires c = kth_room c.requires.0.ready c.loop-k-test.true

pub is_namesake-requires : goal.is_namesake-requires
is_namesake-requires c = record { declared_in = kth_in c.requires.0 c.loop-k-test.true c.get16-p.ensures; by_index = (_, c.requires.1) }

pub returns-then-is_namesake : goal.returns-then-is_namesake
returns-then-is_namesake c =
    sought_here c.loop-k.invariant c.loop-k-test.true c.get16-p.ensures c.is_storage.ensures
    (not_from_true _ c.if-not-is_storage.false) c.is_namesake.ensures c.if-is_namesake.true

pub loop-k-preserved : goal.loop-k-preserved
loop-k-preserved c =
    sought_more c.loop-k.invariant c.loop-k-test.true c.get16-p.ensures c.is_storage.ensures
    (not_from_true _ c.if-not-is_storage.false) c.is_namesake.ensures c.if-is_namesake.false

pub returns : goal.returns
returns c = all_sought c.loop-k.invariant c.loop-k-test.false
