-- `plain::prefixes::prefixes` meets its contract: with the faults found so far, the action left has those of the whole.
-- Assumes nothing.
use mathlib.Core.List.{List}
use Prim.Native.Nat.{ℕ, ◌-◌, ◌≤◌}
use Rattle.stacks.specs.Stacks.{Kept}
use Rattle.plain.specs.Actions.{ActionView}
use Rattle.room.specs.Bodies.{label_cells}
use Rattle.plain.specs.Prefixes.{Ahead}
use Rattle.plain.proofs.prefixes.prefixes.Given as goal

pub record Inv (records values decls room₀ : List ℕ) (i count depth : ℕ) (room : List ℕ) (at names k : ℕ) : Type 0 where
  pub more : count ≤ names
  pub kept : Kept records count label_cells room₀ room
  pub left : (text : List ℕ) (v : ActionView text records values decls room₀ i count depth) → Ahead v room k at names

abbrev pub invariant-loop-at : goal.invariant-loop-at
invariant-loop-at l = Inv l.records l.values l.decls l.initial.room l.i l.count l.depth l.room l.at l.names l.key

abbrev pub decreases-loop-at : goal.decreases-loop-at
decreases-loop-at l = 8192 - l.at
