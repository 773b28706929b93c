-- `declare::counting::words` meets its contract: what is counted and what is left make the total.
-- Assumes nothing.
use borrow.Author.Rules.{rules}
use native.Mathlib.Omega.{arith}
use Rattle.table.specs.Laws.Kth.{kth_room}
use Rattle.declare.specs.Laws.Small.{small_there}
use Rattle.declare.proofs.Totals.{nothing_summed, summed_more, all_summed}
use Rattle.declare.proofs.counting.words.Goals as goal

pub loop-k-init : goal.loop-k-init
loop-k-init c = search (rules, nothing_summed)

pub get16-p-requires : goal.get16-p-requires
get16-p-requires c = search (rules, kth_room)

pub words_in-total-requires : goal.words_in-total-requires
words_in-total-requires c = search (rules, small_there)

pub overflow_add-total : goal.overflow_add-total
overflow_add-total c = omega (arith, c.loop-k.invariant.room, c.words_in-total.ensures.1)

pub loop-k-preserved : goal.loop-k-preserved
loop-k-preserved c = search (rules, summed_more)

pub returns : goal.returns
returns c = all_summed c.loop-k.invariant c.loop-k-test.false
