-- `bounding::mains::main_count` meets its contract.
use borrow.Author.Rules.{rules}
use native.Mathlib.Omega.{arith}
use Rattle.bounding.specs.Laws.Filling.{to_index}
use Rattle.bounding.specs.Laws.Mains.{main_in, main_within, main_kind, main_short, the_longest}
use Rattle.bounding.proofs.mains.main_count.Goals as goal

pub main_name-name-requires : goal.main_name-name-requires
main_name-name-requires c = main_in c.requires.ready

pub fill-requires : goal.fill-requires
fill-requires c = (c.requires, (main_within c.requires c.main_name-name.ensures, (main_kind c.requires c.main_name-name.ensures, (search rules, main_short c.requires c.main_name-name.ensures))))

pub index_of-k-requires : goal.index_of-k-requires
index_of-k-requires c = to_index c.requires (main_within c.requires c.main_name-name.ensures)

pub get64-requires : goal.get64-requires
get64-requires c = omega (arith, c.requires.table_room, c.fill.auto.table, c.index_of-k.ensures.0)

pub returns : goal.returns
returns c = the_longest c.requires c.main_name-name.ensures c.fill.ensures c.index_of-k.ensures.1 c.get64.ensures
