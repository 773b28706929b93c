-- `lexemes::constants::decimal_bits` meets its contract: what is left of the value is 0 once the bits are enough.
-- Assumes nothing.
use mathlib.Core.Path.{◌≡◌}
use Prim.Native.Nat.{ℕ, ◌-◌, ◌/◌, ◌^◌, ◌≤◌}
use Rattle.rules.specs.Text.Constants.{bits_from, decimal_bits}
use Rattle.lexemes.proofs.constants.decimal_bits.Given as goal

pub record Inv (value bits rest : ℕ) : Type 0 where
  pub low : 1 ≤ bits
  pub high : bits ≤ 64
  pub left : rest ≡ value / 2 ^ bits
  pub so_far : bits_from (64 - bits) bits value ≡ decimal_bits value

abbrev pub invariant-loop-rest : goal.invariant-loop-rest
invariant-loop-rest l = Inv l.value l.bits l.rest

abbrev pub decreases-loop-rest : goal.decreases-loop-rest
decreases-loop-rest l = l.rest
