-- `plain::labels::labels_fault` meets its contract: what is found so far, with what the labels left have, is the answer.
-- Assumes nothing.
use mathlib.Core.Path.{◌≡◌}
use mathlib.Core.List.{List}
use Prim.Native.Nat.{ℕ, ◌≤◌}
use lib.ListN.{length}
use Rattle.keys.specs.Keys.{no_key}
use Rattle.plain.specs.Labels.{LabelsView}
use Rattle.plain.specs.Laws.Passes.{Passing}
use Rattle.plain.proofs.labels.labels_fault.Given as goal

pub record Inv (records room₀ : List ℕ) (i j : ℕ) (room : List ℕ) (at count k : ℕ) : Type 0 where
  pub long : length room ≡ length room₀
  pub least : k ≤ no_key
  pub left : (text values decls : List ℕ) (v : LabelsView text records values decls i j) → Passing v room at count k

abbrev pub invariant-loop-at : goal.invariant-loop-at
invariant-loop-at l = Inv l.records l.initial.room l.i l.j l.room l.at l.count l.key
