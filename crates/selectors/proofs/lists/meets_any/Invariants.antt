-- `selectors::lists::meets_any` meets its contract: each item is asked whether it meets the given one.
-- Assumes nothing.
use Prim.Native.Nat.{◌-◌}
use lib.ListN.{length}
use Rattle.rules.specs.Faults.Bodies.{items_meet}
use Rattle.patterns.specs.Items.{meant}
use Rattle.patterns.specs.Stands.{ItemsView}
use Rattle.patterns.specs.Laws.Lists.{Left}
use Rattle.selectors.proofs.lists.meets_any.Given as goal

abbrev pub invariant-loop-item : goal.invariant-loop-item
invariant-loop-item l = (v : ItemsView l.records l.values l.q) → Left (items_meet (meant l.item)) v l.at

abbrev pub decreases-loop-item : goal.decreases-loop-item
decreases-loop-item l = length l.records - l.at
