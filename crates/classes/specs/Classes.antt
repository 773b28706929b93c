-- The table of classes, and runs of bytes by a set of classes.
use Rattle.std.specs.Prelude.{ℕ, ◌+◌, ◌/◌, ◌%◌, ◌^◌, ◌<◌, ◌≤◌, ◌≡◌, Bool, ◌&&◌, not, List, eqb, length, get_or, drop}
use Rattle.rules.specs.Text.Bytes.{class_no, class_of, leading}

-- a table of the class number of each byte
pub record Classed (classes : List ℕ) : Type 0 where
  pub each : (b : ℕ) → b < 256 → get_or classes b 0 ≡ class_no (class_of b)

-- b is not byte 10, and its class is in a set, which has bit n for the class number n
unfoldable pub among : ℕ → ℕ → Bool
among set b = not (eqb b 10) && eqb (set / 2 ^ class_no (class_of b) % 2) 1

-- the run that starts at `from` ends at r
pub record RunEnds (set : ℕ) (text : List ℕ) (from r : ℕ) : Type 0 where
  pub ends : r ≡ from + length (leading (among set) (drop from text))
  pub within : r ≤ length text
