-- A number of 1 to 64 bits.
use Rattle.std.specs.Prelude.{ℕ, ◌^◌, ◌<◌}
use Rattle.laws_accepted.specs.Cited.Declared.{Length}

-- a number x of n bits, from 1 to 64
pub record InBits (n x : ℕ) : Type 0 where
  pub length : Length n
  pub fits : x < 2 ^ n
