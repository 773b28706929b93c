-- What `start` answers: whether a run of declarations begins from a carrier buffer, whatever the budget.
use Rattle.std.specs.Prelude.{ℕ, ◌*◌, ◌≤◌, ◌≡◌, List, length, ⊤, Ok, Err}
use Rattle.rules.specs.Declarations.{Table, total_words}
use Rattle.rules.specs.Steps.Runs.{run}
use Rattle.rules.specs.Limits.{most_words}
use Rattle.rules.specs.Faults.Whole.{main_name}
use Rattle.rules.specs.Answers.{refusal, result_of, words_from, run_on}
use Rattle.rules.specs.Refusals.{OrRefused}
use Rattle.rules.specs.declared.refusals.Refusal.{Refusal}

-- the buffer has 8 bytes a word, and the answer is that of the run from its words
pub record Begins (ds : Table) (buffer : List ℕ) : Type 0 where
  pub long : length buffer ≡ 8 * total_words ds
  pub runs : (budget : ℕ) → run_on ds buffer budget ≡ result_of (run ds (main_name ds) budget (words_from (total_words ds) buffer))

-- the answer is a refusal, whatever the budget
pub record Declines (ds : Table) (buffer : List ℕ) (number place : ℕ) : Type 0 where
  pub refuses : (budget : ℕ) → run_on ds buffer budget ≡ refusal number place
  pub near : place ≤ 8 * most_words

pub data Starts (ds : Table) (buffer : List ℕ) : OrRefused ⊤ → Type 0 where
  begins : Begins ds buffer → Starts ds buffer (Ok tt)
  declines : {r : Refusal} → Declines ds buffer r.number r.place → Starts ds buffer (Err r)
