-- `lexemes::constants::based_digits` meets its contract: the value and the free bits so far, and the digits that are left, come to the whole.
-- Assumes nothing.
use mathlib.Core.Path.{◌≡◌}
use mathlib.Core.List.{List}
use Prim.Native.Nat.{ℕ, ◌-◌, ◌^◌, ◌<◌, ◌≤◌}
use lib.Seq.{slice}
use Rattle.lexemes.specs.Numbers.{based_from, based_digits}
use Rattle.lexemes.proofs.constants.based_digits.Given as goal

pub record Inv (text : List ℕ) (from end base bits value free i : ℕ) : Type 0 where
  pub low : from ≤ i
  pub high : i ≤ end
  pub small : value < base ^ (i - from)
  pub small_free : free < base ^ (i - from)
  pub left : based_from base bits value free (slice i end text) ≡ based_digits base bits (slice from end text)

abbrev pub invariant-loop-i : goal.invariant-loop-i
invariant-loop-i l = Inv l.text l.from l.end l.base l.bits l.value l.free l.i
