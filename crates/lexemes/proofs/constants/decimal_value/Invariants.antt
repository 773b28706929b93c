-- `lexemes::constants::decimal_value` meets its contract: the value so far and the digits that are left come to the whole decimal.
-- Assumes nothing.
use mathlib.Core.Path.{◌≡◌}
use mathlib.Core.List.{List}
use Prim.Native.Nat.{ℕ, ◌^◌, ◌<◌, ◌≤◌}
use lib.Seq.{slice}
use Rattle.rules.specs.Text.Constants.{decimal}
use Rattle.lexemes.specs.Laws.Numbers.{decimal_from}
use Rattle.lexemes.proofs.constants.decimal_value.Given as goal

pub record Inv (text : List ℕ) (at end value i : ℕ) : Type 0 where
  pub low : at ≤ i
  pub high : i ≤ end
  pub small : value < 2 ^ 64
  pub left : decimal_from value (slice i end text) ≡ decimal (slice at end text)

abbrev pub invariant-loop-i : goal.invariant-loop-i
invariant-loop-i l = Inv l.text l.at l.end l.value l.i
