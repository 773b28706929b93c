-- `naming::names::number_of` meets its contract: none of the declarations passed has the name.
-- Assumes nothing.
use Rattle.naming.specs.Laws.Names.{cell_within, record_room, word_room, none_sought, sought_here, sought_on, sought_all}
use Rattle.naming.proofs.names.number_of.Goals as goal

pub loop-k-init : goal.loop-k-init
loop-k-init c = none_sought _ _ _ _ _ _

pub get16-p-requires : goal.get16-p-requires
get16-p-requires c = cell_within c.requires _ c.loop-k-test.true

pub size_at-size-requires : goal.size_at-size-requires
size_at-size-requires c = record_room c.requires c.loop-k-test.true c.get16-p.ensures

pub place_at-requires : goal.place_at-requires
place_at-requires c = record_room c.requires c.loop-k-test.true c.get16-p.ensures

pub is_name-requires : goal.is_name-requires
is_name-requires c = word_room c.requires c.loop-k-test.true c.get16-p.ensures c.place_at.ensures c.size_at-size.ensures

pub returns-then-is_name : goal.returns-then-is_name
returns-then-is_name c =
    λ v. sought_here c.loop-k.invariant c.loop-k-test.true c.get16-p.ensures c.place_at.ensures c.size_at-size.ensures c.is_name.ensures
    c.if-is_name.true v

pub loop-k-preserved : goal.loop-k-preserved
loop-k-preserved c =
    sought_on c.loop-k.invariant c.loop-k-test.true c.get16-p.ensures c.place_at.ensures c.size_at-size.ensures c.is_name.ensures
    c.if-is_name.false

pub returns : goal.returns
returns c = λ v. sought_all c.loop-k.invariant c.loop-k-test.false v
