-- THE THREE DEMANDS about the public calls. `CheckCall` and `RunCall` (Calls/ of the crate `rules`) are the contracts of `isps_check` and `isps_run` in src/lib.rt,
-- which have no hypotheses; that a call ends and touches only what it was lent is part of what the check of that file shows. All other words are those of
-- the crate `rules`.
use Rattle.std.specs.Prelude.{ℕ, ◌<◌, ◌≤◌, ◌≡◌, List, ◌↔◌, length}
use Rattle.std.proofs.Common.{arith}
use Rattle.rules.specs.Limits.{longest_text, most_steps}
use Rattle.rules.specs.Text.Scan.{scan}
use Rattle.rules.specs.Grammar.Trees.{Description, flatten}
use Rattle.rules.specs.Declarations.{Table, declarations, total_words}
use Rattle.rules.specs.Steps.Runs.{Conf, Steps, begin}
use Rattle.rules.specs.Steps.Orders.{Ended, NoStep}
use Rattle.rules.specs.Faults.Whole.{main_name}
use Rattle.rules.specs.Answers.{words_from, Lawful}
use Rattle.rules.specs.Agreement.{ending_in, Agrees, SameEnd}
use Rattle.rules.specs.Calls.Memory.{Memory, Enough}
use Rattle.rules.specs.Calls.Check.{CheckCall}
use Rattle.rules.specs.Calls.Run.{RunCall}
use Rattle.isps.specs.Laws.Calls as calls
use Rattle.isps.specs.Laws.Orders as orders

-- DEMAND 1: number, answer, carriers and work memory are settled: two results that a contract allows are the same.
pub check_settled : {text : List ℕ} {before after after' : Memory} {n n' : ℕ} → CheckCall text before after n → CheckCall text before after' n'
    → (n ≡ n') × (after ≡ after')
check_settled = calls.one_check

pub run_settled : {text carriers left left' : List ℕ} {budget n n' : ℕ} {before after after' : Memory} → RunCall text carriers budget before after left n
    → RunCall text carriers budget before after' left' n' → (n ≡ n') × (after ≡ after') × (left ≡ left')
run_settled = calls.one_run

-- DEMAND 2: Check accepts exactly the texts that the rules allow, by the ending in its answer and by the number that it returns. (That Run does what the
-- rules define is `RunCall` itself: its answer is of `Runs`.)
pub check_exact : {text : List ℕ} {before after : Memory} {n : ℕ} → CheckCall text before after n → Enough before → length text ≤ longest_text
    → (ending_in after.answer ≡ 0) ↔ ((m : ℕ) × (w : ℕ) × Lawful text m w)
check_exact = calls.exact

pub check_exact_number : {text : List ℕ} {before after : Memory} {n : ℕ} → CheckCall text before after n → Enough before → length text ≤ longest_text
    → (n ≡ 0) ↔ ((m : ℕ) × (w : ℕ) × Lawful text m w)
check_exact_number = calls.exact_number

-- DEMAND 3 speaks of a call that read a description d. A call that is no refusal has read one, and this is it.
pub ran_description : {text carriers left : List ℕ} {budget n : ℕ} {before after : Memory} → RunCall text carriers budget before after left n → Enough before
    → length text ≤ longest_text → ending_in after.answer < 4 → (d : Description) × flatten d ≡ (scan text).tokens
ran_description = orders.ran_description

-- `Steps ds k start c`: some k allowed steps of single members come from the start to c.
module _ {text carriers left : List ℕ} {budget n : ℕ} {before after : Memory} (call : RunCall text carriers budget before after left n)
    (enough : Enough before) (short : length text ≤ longest_text) (within : budget ≤ most_steps) (d : Description) (stands : flatten d ≡ (scan text).tokens) where
  abbrev ds : Table
  ds = declarations d

  abbrev start : Conf
  start = begin ds (main_name ds) (words_from (total_words ds) carriers)

  small : budget < 4294967296
  small = omega (arith, within)

  -- (a) If the call answers Done or Stopped, an order of single steps that can go no further has its ending, its count and its carriers.
  pub same_end : ending_in after.answer < 2 → (k : ℕ) (c : Conf) → Steps ds k start c → NoStep ds c → SameEnd after.answer left k c
  same_end l k c s = orders.agrees_same (orders.every_order call enough short small d stands l k c s) l

  -- And every order, wherever it has come to, agrees with the call: it is not longer, has not faulted, and can go on to that end in the steps that are left.
  pub every_order : ending_in after.answer < 2 → (k : ℕ) (c : Conf) → Steps ds k start c → Agrees ds after.answer left k c
  every_order = orders.every_order call enough short small d stands

  -- (b) If it answers Paused or Fault, no order ends Done or Stopped within the budget.
  pub no_order_ends : 2 ≤ ending_in after.answer → ending_in after.answer < 4 → (k : ℕ) (c : Conf) → k ≤ budget → Steps ds k start c → Ended c → ⊥
  no_order_ends = orders.no_order_ends call enough short small d stands
