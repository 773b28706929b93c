-- What `isps_run` leaves and returns, for every text, all carriers, every budget and all memory. Demands 1 and 2.
use Rattle.std.specs.Prelude.{ℕ, ◌<◌, ◌≤◌, ◌≡◌, List, length}
use Rattle.rules.specs.Limits.{longest_text}
use Rattle.rules.specs.Steps.Runs.{Ending, done, halted, paused, faulted}
use Rattle.rules.specs.Answers.{Result, refusal, ended, Runs, result_numbers}
use Rattle.rules.specs.Calls.Memory.{Memory, Enough, settled}

-- the number of an ending and of a result: 0 where it has none
abbrev pub ending_number : Ending → ℕ
ending_number done = 0
ending_number halted = 0
ending_number paused = 0
ending_number (faulted m p) = m

abbrev pub result_number : Result → ℕ
result_number (refusal m p) = m
result_number (ended e n b) = ending_number e

-- "Every refusal leaves carriers unchanged"; else they "hold what the counted steps left"
abbrev pub carriers_left : List ℕ → Result → List ℕ
carriers_left carriers (refusal m p) = carriers
carriers_left carriers (ended e n b) = b

-- "1 and 2 change nothing"; else the result is one that Run may give, and work memory is zero
pub data RunCall (text carriers : List ℕ) (budget : ℕ) (before after : Memory) (left : List ℕ) (number : ℕ) : Type 0 where
  short_memory : (Enough before → ⊥) → number ≡ 1 → after ≡ before → left ≡ carriers → RunCall text carriers budget before after left number
  long_text : Enough before → longest_text < length text → number ≡ 2 → after ≡ before → left ≡ carriers
      → RunCall text carriers budget before after left number
  answer : (x : Result) → Enough before → length text ≤ longest_text → Runs text carriers budget x → number ≡ result_number x
      → after ≡ settled (result_numbers text x) before → left ≡ carriers_left carriers x → RunCall text carriers budget before after left number
