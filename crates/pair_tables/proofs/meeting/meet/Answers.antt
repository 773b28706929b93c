-- `pair_tables::meeting::meet` meets its contract: the one namesake decides by its names of words and bits.
-- Assumes nothing.
use Rattle.table.specs.Laws.Kth.{kth_room, kth_view}
use Rattle.pair_tables.specs.Standing.{view_of}
use Rattle.pair_tables.specs.Laws.Meeting.{meets_none, meets_shared, meets_clash}
use Rattle.pair_tables.proofs.meeting.meet.Goals as goal

pub returns-then-m0-i : goal.returns-then-m0-i
returns-then-m0-i c = meets_none c.find_namesake-i.ensures c.if-m0-i.true

pub get16-p-requires : goal.get16-p-requires
get16-p-requires c = kth_room c.requires.0.ready c.if-m0-i.false

pub same_shape-requires : goal.same_shape-requires
same_shape-requires c = (kth_view c.requires.0.ready c.if-m0-i.false c.get16-p.ensures, view_of c.requires.1)

pub returns-then-same_shape : goal.returns-then-same_shape
returns-then-same_shape c = λ v w. meets_shared c.find_namesake-i.ensures c.if-m0-i.false c.get16-p.ensures c.same_shape.ensures v w c.if-same_shape.true

pub returns : goal.returns
returns c = λ v w. meets_clash c.find_namesake-i.ensures c.if-m0-i.false c.get16-p.ensures c.same_shape.ensures v w c.if-same_shape.false
