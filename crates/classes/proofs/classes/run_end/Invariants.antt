-- `classes::classes::run_end` meets its contract: what is passed and the run of the rest come to the whole run.
-- Assumes nothing.
use mathlib.Core.Path.{◌≡◌}
use mathlib.Core.List.{List}
use Prim.Native.Nat.{ℕ, ◌+◌, ◌≤◌}
use lib.ListN.{length, drop}
use Rattle.rules.specs.Text.Bytes.{leading}
use Rattle.classes.specs.Classes.{among}
use Rattle.classes.proofs.classes.run_end.Given as goal

pub record Inv (text : List ℕ) (from set i : ℕ) : Type 0 where
  pub within : i ≤ length text
  pub left : i + length (leading (among set) (drop i text)) ≡ from + length (leading (among set) (drop from text))

abbrev pub invariant-loop-i : goal.invariant-loop-i
invariant-loop-i l = Inv l.text l.from l.set l.i
