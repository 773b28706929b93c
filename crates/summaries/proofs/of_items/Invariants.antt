-- `summaries::of_items` meets its contract: the summary tells of the items passed.
-- Assumes nothing.
use Prim.Native.Nat.{◌-◌}
use lib.ListN.{length}
use Rattle.patterns.specs.Stands.{ItemsView}
use Rattle.summaries.specs.Laws.Gathering.{Gathered}
use Rattle.summaries.proofs.of_items.Given as goal

abbrev pub invariant-loop-all : goal.invariant-loop-all
invariant-loop-all l = (v : ItemsView l.records l.values l.q) → Gathered v l.at l.all

abbrev pub decreases-loop-all : goal.decreases-loop-all
decreases-loop-all l = length l.records - l.at
