-- `stepping::choice::any_matches` meets its contract: each item is asked whether it matches.
-- Assumes nothing.
use Prim.Native.Nat.{◌-◌}
use lib.ListN.{length}
use Rattle.rules.specs.Selectors.{matches}
use Rattle.patterns.specs.Stands.{ItemsView}
use Rattle.patterns.specs.Laws.Lists.{Left}
use Rattle.stepping.proofs.choice.any_matches.Given as goal

abbrev pub invariant-loop-q : goal.invariant-loop-q
invariant-loop-q l = (v : ItemsView l.records l.values l.q) → Left (λ i. matches i l.x) v l.at

abbrev pub decreases-loop-q : goal.decreases-loop-q
decreases-loop-q l = length l.records - l.at
