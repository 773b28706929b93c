-- `pair_turns::views::fill_view` meets its contract: the words of the first k declarations are numbered.
-- Assumes nothing.
use Prim.Native.Nat.{◌-◌}
use mathlib.Core.Path.{refl, ◌∙◌}
use native.Mathlib.Omega.{arith}
use borrow.Author.Rules.{rules}
use Rattle.table.specs.Laws.Kth.{kth_room}
use Rattle.declare.specs.Laws.Small.{small_there}
use Rattle.pair_turns.specs.Laws.Views.{none_filled, all_filled, to_count, filled_more}
use Rattle.pair_turns.proofs.views.fill_view.Goals as goal

pub loop-k-init : goal.loop-k-init
loop-k-init c = (refl, none_filled)

pub get16-p-requires : goal.get16-p-requires
get16-p-requires c = search (rules, kth_room)

pub words_in-n-requires : goal.words_in-n-requires
words_in-n-requires c = search (rules, small_there)

pub count_up-requires : goal.count_up-requires
count_up-requires c =
    let fits = to_count c.loop-k.invariant.1 c.loop-k-test.true c.get16-p.ensures c.words_in-n.ensures.0 c.requires.by_index in
    (omega (arith, fits, c.requires.m_in_bounds.1, c.loop-k.invariant.0), omega (arith, fits, c.requires.m_in_bounds.2 c.loop-k.k c.loop-k-test.true, c.get16.ensures))

pub overflow_add-at : goal.overflow_add-at
overflow_add-at c = omega (arith, c.loop-k.invariant.1.room, c.words_in-n.ensures.1)

pub loop-k-preserved : goal.loop-k-preserved
loop-k-preserved c = (
  c.count_up.auto.view ∙ c.loop-k.invariant.0,
  filled_more c.loop-k.invariant.1 c.loop-k-test.true c.get16-p.ensures c.words_in-n.ensures.0 c.requires.by_index c.get16.ensures c.count_up.ensures,
)

pub returns : goal.returns
returns c = all_filled c.loop-k.invariant.1 c.loop-k-test.false
