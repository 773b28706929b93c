-- What `isps_why` leaves and returns, for every text and all memory: the answer of Check, and the reason as 24 numbers.
use Rattle.std.specs.Prelude.{ℕ, zero, suc, ◌<◌, ◌≤◌, ◌≡◌, List, [], ◌∷◌, ◌++◌, length, drop}
use Rattle.rules.specs.Limits.{longest_text}
use Rattle.rules.specs.Answers.{Verdict, Checks, verdict_numbers}
use Rattle.rules.specs.Calls.Memory.{Memory, Enough, number_bytes, settled}
use Rattle.rules.specs.Calls.Check.{verdict_number}
use Rattle.rules.specs.Reasons.{Reason, no_reason, racing, chained, Explains}

-- how many numbers a reason has, and how many bytes
abbrev pub reason_count : ℕ
reason_count = 24

abbrev pub reason_size : ℕ
reason_size = 96

-- numbers, and 0 behind them
unfoldable pub padded : ℕ → List ℕ → List ℕ
padded zero ns = []
padded (suc k) [] = 0 ∷ padded k []
padded (suc k) (n ∷ ns) = n ∷ padded k ns

-- what the numbers begin with: 0 for nothing more, 1 for a race, 2 for a chain and how many bodies are listed
abbrev pub reason_front : Reason → List ℕ
reason_front no_reason = []
reason_front (racing e l c n w) = 1 ∷ e ∷ l ∷ c ∷ n ∷ w ∷ []
reason_front (chained ps) = 2 ∷ length ps ∷ ps

unfoldable pub reason_numbers : Reason → List ℕ
reason_numbers r = padded reason_count (reason_front r)

-- they stand in front of what was there
unfoldable pub reasoned : Reason → List ℕ → List ℕ
reasoned r before = number_bytes (reason_numbers r) ++ drop reason_size before

-- the memory of this call: that of Check, and room for the reason
pub record WhyMemory (m : Memory) (reason : List ℕ) : Type 0 where
  pub enough : Enough m
  pub room : reason_size ≤ length reason

-- "1 and 2 change nothing"; else the answer is one that Check may give, the reason is one that explains it, and work memory is zero
pub data WhyCall (text : List ℕ) (before after : Memory) (reason left : List ℕ) (number : ℕ) : Type 0 where
  short_memory : (WhyMemory before reason → ⊥) → number ≡ 1 → after ≡ before → left ≡ reason → WhyCall text before after reason left number
  long_text : WhyMemory before reason → longest_text < length text → number ≡ 2 → after ≡ before → left ≡ reason → WhyCall text before after reason left number
  answer : (v : Verdict) (r : Reason) → WhyMemory before reason → length text ≤ longest_text → Checks text v → Explains text v r → number ≡ verdict_number v
      → after ≡ settled (verdict_numbers text v) before → left ≡ reasoned r reason → WhyCall text before after reason left number
