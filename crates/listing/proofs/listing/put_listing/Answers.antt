-- `listing::listing::put_listing` meets its contract: what is appended and what is left make the whole.
-- Assumes nothing.
use borrow.Author.Rules.{rules}
use native.Mathlib.Omega.{arith}
use Rattle.table.specs.Laws.Kth.{kth_room}
use Rattle.declare.specs.Laws.Small.{small_there}
use Rattle.listing.proofs.Tables.{none_listed, words_fit, room_there, more_listed, all_listed}
use Rattle.listing.proofs.listing.put_listing.Goals as goal

pub loop-k-init : goal.loop-k-init
loop-k-init c = search (rules, none_listed)

pub get16-p-requires : goal.get16-p-requires
get16-p-requires c = search (rules, kth_room)

pub words_in-n-requires : goal.words_in-n-requires
words_in-n-requires c = search (rules, small_there)

pub put_declaration-next-requires : goal.put_declaration-next-requires
put_declaration-next-requires c = let r = room_there c.loop-k.invariant (omega arith) c.get16-p.ensures c.words_in-n.ensures.0 c.requires.ready c.requires.most_words_in_bounds in record { counted = r.0; n_in_bounds = r.1 }

pub overflow_add-w : goal.overflow_add-w
overflow_add-w c = omega (arith, words_fit c.loop-k.invariant (omega arith) c.get16-p.ensures c.words_in-n.ensures.0 c.requires.ready)

pub loop-k-preserved : goal.loop-k-preserved
loop-k-preserved c = more_listed c.loop-k.invariant (omega arith) c.get16-p.ensures c.words_in-n.ensures.0 c.requires.ready c.put_declaration-next.ensures

pub returns : goal.returns
returns c = all_listed c.loop-k.invariant (omega arith) c.requires.ready
