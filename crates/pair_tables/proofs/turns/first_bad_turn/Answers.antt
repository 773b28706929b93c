-- `pair_tables::turns::first_bad_turn` meets its contract: none of the first i turns is bad.
-- Assumes nothing.
use borrow.Author.Rules.{rules}
use native.Mathlib.Omega.{arith}
use mathlib.Core.Path.{◌≡◌}
use lib.ListN.{length}
use Rattle.pair_tables.specs.Laws.Turns.{none_judged, bad_here, good_more, all_good}
use Rattle.pair_tables.proofs.turns.first_bad_turn.Goals as goal

pub loop-i-init : goal.loop-i-init
loop-i-init c = search (rules, none_judged)

pub returns-then-side-gt-LAST_SIDE : goal.returns-then-side-gt-LAST_SIDE
returns-then-side-gt-LAST_SIDE c = search (rules, bad_here)

pub loop-i-preserved : goal.loop-i-preserved
loop-i-preserved c = search (rules, good_more)

pub returns : goal.returns
returns c =
    let e : c.loop-i.i ≡ length c.args.turns.now = omega (arith, c.loop-i-test.false, c.loop-i.auto.i-end) in
    rw e at (all_good c.loop-i.invariant c.loop-i-test.false)
