-- `selectors::alternatives::first_overlap` meets its contract. No alternative passed overlaps an earlier one, nor does the present one any that was
-- compared with it or told apart from it by their summaries.
-- Assumes nothing.
use mathlib.Core.Path.{◌≡◌}
use mathlib.Core.Bool.{false}
use mathlib.Core.List.{List}
use Prim.Native.Nat.{ℕ, ◌≤◌}
use Rattle.rules.specs.Faults.Bodies.{some_meet_of}
use Rattle.selectors.specs.Overlaps.{AlternativesView, earlier_items}
use Rattle.selectors.specs.Laws.Alternatives.{NoneBefore}
use Rattle.selectors.proofs.alternatives.first_overlap.Given as goal

pub record Searched (records values starts : List ℕ) (count later : ℕ) : Type 0 where
  pub within : later ≤ count
  pub none : (v : AlternativesView records values starts count) → NoneBefore v.items later

pub record Compared (records values starts : List ℕ) (count later earlier : ℕ) : Type 0 where
  pub within : earlier ≤ later
  pub none : (v : AlternativesView records values starts count) → some_meet_of (v.items later) (earlier_items v.items earlier) ≡ false

abbrev pub invariant-loop-earlier : goal.invariant-loop-earlier
invariant-loop-earlier l = Compared l.records l.values l.starts l.count l.later l.earlier

abbrev pub invariant-loop-later : goal.invariant-loop-later
invariant-loop-later l = Searched l.records l.values l.starts l.count l.later
