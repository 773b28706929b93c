-- `selectors::lists::past_length` meets its contract: each item is asked for its highest value.
-- Assumes nothing.
use Prim.Native.Nat.{◌-◌, ◌^◌}
use lib.Dec.{leb}
use lib.ListN.{length}
use Rattle.rules.specs.Selectors.{highest}
use Rattle.patterns.specs.Stands.{ItemsView}
use Rattle.patterns.specs.Laws.Lists.{Left}
use Rattle.selectors.proofs.lists.past_length.Given as goal

abbrev pub invariant-loop-n : goal.invariant-loop-n
invariant-loop-n l = (v : ItemsView l.records l.values l.q) → Left (λ i. leb (2 ^ l.n) (highest i)) v l.at

abbrev pub decreases-loop-n : goal.decreases-loop-n
decreases-loop-n l = length l.records - l.at
