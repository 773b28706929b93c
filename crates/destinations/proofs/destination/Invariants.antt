-- `destinations::destination` meets its contract. The invariant: what is judged and stored to so far, with the accesses that are left,
-- comes to the whole.
-- Assumes nothing.
use mathlib.Core.List.{List}
use Prim.Native.Nat.{ℕ, ◌+◌, ◌-◌, ◌*◌, ◌<◌, ◌≤◌}
use lib.ListN.{length}
use Rattle.weighing.specs.declared.Weight.{Weight}
use Rattle.destinations.specs.declared.carriers.Carriers.{Carriers}
use Rattle.destinations.specs.Destinations.{DestinationAt}
use Rattle.destinations.specs.Laws.Destinations.{Joining}
use Rattle.destinations.proofs.destination.Given as goal

pub record Inv (records values decls : List ℕ) (i depth : ℕ) (kept : Carriers) (weight : Weight) (twice p : ℕ) : Type 0 where
  pub room : 8 * p + 8 ≤ length records
  pub small : p < 8192
  pub short : weight.bits ≤ 64
  pub all : (v : DestinationAt records values decls i depth) → Joining v weight.key weight.bits kept.words twice p

abbrev pub invariant-loop-kept : goal.invariant-loop-kept
invariant-loop-kept l = Inv l.records l.values l.decls l.i l.depth l.kept l.weight l.twice l.at

abbrev pub decreases-loop-kept : goal.decreases-loop-kept
decreases-loop-kept l = length l.records - l.at
