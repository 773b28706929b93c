-- `pair_turns::taking::take` meets its contract: the rest of the turns comes to what all come to.
-- Assumes nothing.
use Prim.Native.Nat.{◌≤◌}
use mathlib.Core.Path.{◌≡◌}
use lib.ListN.{length}
use Rattle.pair_turns.specs.Turns.{Sides}
use Rattle.pair_turns.specs.Laws.Taking.{Taking}
use Rattle.pair_turns.proofs.taking.take.Given as goal

abbrev pub invariant-loop-next : goal.invariant-loop-next
invariant-loop-next l =
    (l.left ≤ l.budget) × ((length l.carriers ≡ length l.initial.carriers) × ((length l.own ≡ length l.initial.own) × ((length l.scratch ≡ length l.initial.scratch)
    × ((v : Sides l.records0 l.values0 l.decls0 l.begin0 l.w0 l.records1 l.values1 l.decls1 l.begin1 l.w1 l.view (length l.initial.carriers))
    → Taking v.first v.second l.turns l.budget l.initial.carriers l.carriers l.left l.stopped l.side l.next-index))))
