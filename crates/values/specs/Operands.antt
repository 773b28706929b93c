-- Operands that fit their lengths.
-- Assumes nothing: these are definitions.
use Rattle.std.specs.Prelude.{ℕ, ◌^◌, ◌<◌, ◌≤◌}
use Rattle.rules.specs.Text.Tokens.{Op}
use Rattle.rules.specs.Values.{op_bits}
use Rattle.rules.specs.Limits.{most_bits}

-- a is a number of m bits, and b of n
pub record Fit (m a n b : ℕ) : Type 0 where
  pub left : a < 2 ^ m
  pub right : b < 2 ^ n

-- operands of o, the left one not empty, whose result is no longer than the longest value
pub record Operands (o : Op) (m a n b : ℕ) : Type 0 where
  pub some : 0 < m
  pub fit : Fit m a n b
  pub short : op_bits o m n ≤ most_bits
