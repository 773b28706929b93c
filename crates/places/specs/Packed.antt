-- The place of an access in one number of 64 bits.
use Rattle.std.specs.Prelude.{ℕ, ◌+◌, ◌*◌, ◌^◌, ◌<◌}

abbrev pub packed : ℕ → ℕ → ℕ → ℕ → ℕ → ℕ
packed first low bits left right = first + 2 ^ 16 * low + 2 ^ 24 * bits + 2 ^ 32 * left + 2 ^ 48 * right

-- each part fits its field
pub record Fits (f w b l r : ℕ) : Type 0 where
  pub first : f < 65536
  pub low : w < 256
  pub bits : b < 256
  pub left : l < 65536
  pub right : r < 65536
