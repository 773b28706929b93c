-- `pair_turns::views::count_up` meets its contract: the cells up to j count up.
-- Assumes nothing.
use Prim.Native.Nat.{◌≤◌}
use mathlib.Core.Path.{◌≡◌}
use lib.ListN.{length}
use Rattle.pair_turns.specs.Views.{CountedUp}
use Rattle.pair_turns.proofs.views.count_up.Given as goal

abbrev pub invariant-loop-j : goal.invariant-loop-j
invariant-loop-j l = (l.j ≤ l.n) × ((length l.view ≡ length l.initial.view) × CountedUp l.initial.view l.view l.at l.j l.first)
