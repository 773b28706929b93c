-- What `isps_check` leaves and returns, for every text and all memory. Demand 1, and demand 2 as far as it speaks of acceptance.
use Rattle.std.specs.Prelude.{ℕ, ◌<◌, ◌≤◌, ◌≡◌, List, length}
use Rattle.rules.specs.Limits.{longest_text}
use Rattle.rules.specs.Answers.{Verdict, accepted, refused, Checks, verdict_numbers}
use Rattle.rules.specs.Calls.Memory.{Memory, Enough, settled}

-- the number of a verdict: 0 where it is none
abbrev pub verdict_number : Verdict → ℕ
verdict_number (accepted n w) = 0
verdict_number (refused m p) = m

-- "1 and 2 change nothing"; else the answer is one that Check may give, and work memory is zero
pub data CheckCall (text : List ℕ) (before after : Memory) (number : ℕ) : Type 0 where
  short_memory : (Enough before → ⊥) → number ≡ 1 → after ≡ before → CheckCall text before after number
  long_text : Enough before → longest_text < length text → number ≡ 2 → after ≡ before → CheckCall text before after number
  answer : (v : Verdict) → Enough before → length text ≤ longest_text → Checks text v → number ≡ verdict_number v → after ≡ settled (verdict_numbers text v) before
      → CheckCall text before after number
