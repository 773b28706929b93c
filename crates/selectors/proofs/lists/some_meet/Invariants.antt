-- `selectors::lists::some_meet` meets its contract: each item of one list is asked whether it meets one of the other.
-- Assumes nothing.
use Prim.Native.Nat.{◌-◌}
use lib.ListN.{length}
use Rattle.rules.specs.Faults.Bodies.{meets_any}
use Rattle.patterns.specs.Stands.{TwoLists}
use Rattle.patterns.specs.Laws.Lists.{Left, first_list}
use Rattle.selectors.proofs.lists.some_meet.Given as goal

abbrev pub invariant-loop-p : goal.invariant-loop-p
invariant-loop-p l = (v : TwoLists l.records l.values l.p l.q) → Left (λ i. meets_any i v.second) (first_list v) l.at

abbrev pub decreases-loop-p : goal.decreases-loop-p
decreases-loop-p l = length l.records - l.at
