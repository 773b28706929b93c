-- `walking::names::activate` meets its contract.
use borrow.Author.Rules.{rules}
use native.Mathlib.Omega.{arith}
use Rattle.walking.specs.Laws.Acting.{few_declared, table_room, inside_low, activates}
use Rattle.walking.proofs.names.activate.Goals as goal

pub index_of-k-requires : goal.index_of-k-requires
index_of-k-requires c = search (rules, few_declared)

pub get64-inside-requires : goal.get64-inside-requires
get64-inside-requires c = search (rules, table_room)

pub overflow_add-inside : goal.overflow_add-inside
overflow_add-inside c = omega (arith, inside_low c.requires.0.1 c.requires.1 c.index_of-k.ensures.1 c.get64-inside.ensures)

pub count-requires : goal.count-requires
count-requires c = (c.requires.0.1.shows.low, omega (arith, inside_low c.requires.0.1 c.requires.1 c.index_of-k.ensures.1 c.get64-inside.ensures))

pub returns : goal.returns
returns c = activates c.requires.0.1 c.requires.1 c.index_of-k.ensures.1 c.get64-inside.ensures c.count.ensures
