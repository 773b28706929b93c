-- `declare::faults::fault30` meets its contract: the faults that are left are all of them.
-- Assumes nothing.
use borrow.Author.Rules.{rules}
use native.Mathlib.Omega.{arith}
use Rattle.declare.proofs.Choosing.{chosen_room}
use Rattle.declare.proofs.Targets.{chosen_at}
use Rattle.declare.proofs.Places.{none_judged, all_judged, record_room, key_small, first_found, small_now, judged_more}
use Rattle.declare.proofs.faults.fault30.Goals as goal

pub loop-k-init : goal.loop-k-init
loop-k-init c = search (rules, none_judged)

pub get16-p-requires : goal.get16-p-requires
get16-p-requires c = search (rules, chosen_room)

pub fault_at-number-requires : goal.fault_at-number-requires
fault_at-number-requires c = record { chosen = chosen_at c.requires c.loop-k-test.true; words_le_most_words = c.loop-k.invariant.room }

pub place_at-requires : goal.place_at-requires
place_at-requires c =
    record_room c.loop-k.invariant c.loop-k-test.true c.get16-p.ensures c.fault_at-number.ensures
    c.requires

pub fault_key-requires : goal.fault_key-requires
fault_key-requires c =
    key_small c.loop-k.invariant c.loop-k-test.true c.get16-p.ensures c.fault_at-number.ensures
    c.requires c.place_at.ensures

pub returns-then-number-ne0 : goal.returns-then-number-ne0
returns-then-number-ne0 c = search (rules, first_found)

pub words_in-words-requires : goal.words_in-words-requires
words_in-words-requires c = search (rules, small_now)

pub overflow_add-words : goal.overflow_add-words
overflow_add-words c = omega (arith, c.loop-k.invariant.room, c.words_in-words.ensures.1)

pub loop-k-preserved : goal.loop-k-preserved
loop-k-preserved c = search (rules, judged_more)

pub returns : goal.returns
returns c = search (rules, all_judged)
