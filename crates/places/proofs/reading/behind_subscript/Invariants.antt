-- `places::reading::behind_subscript` meets its contract: what is left to read comes to the same place.
-- Assumes nothing.
use mathlib.Core.Path.{◌≡◌}
use mathlib.Core.List.{List}
use Prim.Native.Nat.{ℕ, ◌+◌, ◌≤◌}
use lib.ListN.{drop}
use Rattle.places.specs.Valued.{Valued}
use Rattle.places.specs.Brackets.{past}
use Rattle.places.proofs.reading.behind_subscript.Given as goal

pub record Inv (records : List ℕ) (n p d i : ℕ) : Type 0 where
  pub within : i ≤ n
  pub shallow : d ≤ i + 1
  pub left : (values : List ℕ) (v : Valued records values n) → past d (drop i v.tokens) ≡ past 1 (drop p v.tokens)

abbrev pub invariant-loop-i : goal.invariant-loop-i
invariant-loop-i l = Inv l.records l.n l.p l.d l.i
