-- What `isps_trace` leaves and returns, for every text, all carriers, every budget, every lent list and all memory.
use Rattle.std.specs.Prelude.{ℕ, ◌<◌, ◌≤◌, ◌≡◌, true, false, List, [], ◌∷◌, length}
use Rattle.rules.specs.Limits.{longest_text}
use Rattle.rules.specs.Text.Scan.{scan}
use Rattle.rules.specs.Grammar.Trees.{Description, flatten}
use Rattle.rules.specs.Declarations.{declarations, total_words}
use Rattle.rules.specs.Steps.Runs.{Ending}
use Rattle.rules.specs.Steps.Orders.{Well}
use Rattle.rules.specs.Faults.Whole.{main_name}
use Rattle.rules.specs.Answers.{refusal, ended, Runs, words_from, refused_numbers, ran_numbers}
use Rattle.rules.specs.Agreement.{ending_code}
use Rattle.rules.specs.Stores.{TraceVerdict, just_so, up_to, TraceAnswer}
use Rattle.rules.specs.Entries.{entries_in, is_list}
use Rattle.rules.specs.Calls.Memory.{Memory, Enough, work_size, zeros, settled}
use Rattle.rules.specs.Calls.Run.{ending_number}

-- refused; or an ending of left to right with its steps, and where that is Done or Stopped the verdict on the list
pub data Trace : Type 0 where
  denied : ℕ → ℕ → Trace
  unended : Ending → ℕ → Trace
  compared : Ending → ℕ → TraceVerdict → Trace

-- What may be answered. "Refusals: those of Run, then 110 for a longer list or one not in whole entries, place 0." "If left to right ends in no Done or Stopped,
-- the answer names that ending."
pub data Traces (text carriers : List ℕ) (budget : ℕ) (entries : List ℕ) : Trace → Type 0 where
  not_run : {m p : ℕ} → Runs text carriers budget (refusal m p) → Traces text carriers budget entries (denied m p)
  no_list : {e : Ending} {n : ℕ} {b : List ℕ} → Runs text carriers budget (ended e n b) → is_list entries ≡ false
      → Traces text carriers budget entries (denied 110 0)
  not_ended : {e : Ending} {n : ℕ} {b : List ℕ} → Runs text carriers budget (ended e n b) → is_list entries ≡ true → (Well e → ⊥)
      → Traces text carriers budget entries (unended e n)
  matched : {e : Ending} {n : ℕ} {b : List ℕ} {v : TraceVerdict} (d : Description) → flatten d ≡ (scan text).tokens → Runs text carriers budget (ended e n b)
      → is_list entries ≡ true → Well e
      → TraceAnswer (declarations d) (main_name (declarations d)) budget (words_from (total_words (declarations d)) carriers) (entries_in entries) v
      → Traces text carriers budget entries (compared e n v)

abbrev pub trace_number : Trace → ℕ
trace_number (denied m p) = m
trace_number (unended e n) = ending_number e
trace_number (compared e n v) = 0

-- the fourth number is 1 for yes and 0 for no; the fifth for no the first entry that cannot be, or the list's length
abbrev pub says_yes : TraceVerdict → ℕ
says_yes just_so = 1
says_yes (up_to i) = 0

abbrev pub first_bad : TraceVerdict → ℕ
first_bad just_so = 0
first_bad (up_to i) = i

abbrev pub trace_numbers : List ℕ → Trace → List ℕ
trace_numbers text (denied m p) = refused_numbers text m p
trace_numbers text (unended e n) = ran_numbers text e n
trace_numbers text (compared e n v) = ending_code e ∷ 0 ∷ 0 ∷ n ∷ says_yes v ∷ first_bad v ∷ 0 ∷ 0 ∷ []

-- the memory of this call: that of the others, and a fourth buffer of work memory
pub record TraceMemory (m : Memory) (fourth : List ℕ) : Type 0 where
  pub enough : Enough m
  pub work_d : work_size ≤ length fourth

-- "1 and 2 change nothing"; else the answer is the one to this text, these carriers, this budget and this list, and work memory is zero. "Only the work memory is
-- written", and the answer.
pub data TraceCall (text carriers : List ℕ) (budget : ℕ) (entries : List ℕ) (before after : Memory) (fourth left : List ℕ) (number : ℕ) : Type 0 where
  short_memory : (TraceMemory before fourth → ⊥) → number ≡ 1 → after ≡ before → left ≡ fourth → TraceCall text carriers budget entries before after fourth left number
  long_text : TraceMemory before fourth → longest_text < length text → number ≡ 2 → after ≡ before → left ≡ fourth
      → TraceCall text carriers budget entries before after fourth left number
  answer : (x : Trace) → TraceMemory before fourth → length text ≤ longest_text → Traces text carriers budget entries x → number ≡ trace_number x
      → after ≡ settled (trace_numbers text x) before → left ≡ zeros fourth → TraceCall text carriers budget entries before after fourth left number
