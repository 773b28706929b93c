-- `places::counting::first_words` meets its contract: each declaration begins where those before it end.
-- Assumes nothing.
use borrow.Author.Rules.{rules}
use native.Mathlib.Omega.{arith}
use mathlib.Core.Path.{refl}
use Rattle.places.specs.Laws.Scene.{cell_room, view_here}
use Rattle.places.specs.Laws.Counting.{few_so_far, put_room, counted_more, all_counted, none_counted}
use Rattle.places.proofs.counting.first_words.Goals as goal

pub loop-k-init : goal.loop-k-init
loop-k-init c = record { counted = none_counted (search rules); long = refl }

pub overflow_cast-total : goal.overflow_cast-total
overflow_cast-total c = record { fits = omega (arith, few_so_far c.loop-k.invariant.counted c.requires.0) }

pub put16-requires : goal.put16-requires
put16-requires c = put_room c.loop-k.invariant.counted c.loop-k-test.true

pub get16-p-requires : goal.get16-p-requires
get16-p-requires c = cell_room c.requires.0 c.loop-k-test.true

pub words_in-total-requires : goal.words_in-total-requires
words_in-total-requires c = view_here c.requires.0 c.loop-k-test.true c.get16-p.ensures

pub overflow_add-total : goal.overflow_add-total
overflow_add-total c = omega (arith, few_so_far c.loop-k.invariant.counted c.requires.0, c.words_in-total.ensures.0)

pub loop-k-preserved : goal.loop-k-preserved
loop-k-preserved c =
    record {
      counted = counted_more c.loop-k.invariant.counted c.loop-k-test.true c.requires.0 c.put16.ensures c.get16-p.ensures c.words_in-total.ensures.1;
      long = search rules;
    }

pub returns : goal.returns
returns c = all_counted c.loop-k.invariant.counted c.loop-k-test.false
