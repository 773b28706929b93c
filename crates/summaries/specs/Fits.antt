-- Items as a text has them: the free bits of a pattern are 0 in its value, and a range runs upwards.
use Rattle.std.specs.Prelude.{ℕ, ◌^◌, ◌<◌, ◌≤◌, ◌≡◌}
use Rattle.std.specs.Int.Bits.{bit_and}
use Rattle.rules.specs.Selectors.{Item, pattern, between}

pub record PatternFits (n v f : ℕ) : Type 0 where
  pub value : v < 2 ^ n
  pub free : f < 2 ^ n
  pub apart : bit_and v f ≡ 0

abbrev pub ItemFits : Item → Type 0
ItemFits (pattern v f) = PatternFits 64 v f
ItemFits (between l h) = (l ≤ h) × (h < 2 ^ 64)
