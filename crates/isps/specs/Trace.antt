-- A DESIGNER'S TRACE, about the public call. `TraceCall` (Calls/ of the crate `rules`) is the contract of `isps_trace` in src/lib.rt, which has no hypotheses. All other
-- words are those of the crate `rules`: `Order ds n b s l` (Stores.antt) is some allowed order from the start of the body n that ends Done or Stopped within the
-- budget b and makes just the stores l; `Fails` says which entry is the first that cannot be.
use Rattle.std.specs.Prelude.{ℕ, ◌<◌, ◌≤◌, ◌≡◌, true, false, List, ◌↔◌, length, take, drop}
use Rattle.rules.specs.Limits.{longest_text}
use Rattle.rules.specs.Text.Scan.{scan}
use Rattle.rules.specs.Grammar.Trees.{Description, flatten}
use Rattle.rules.specs.Declarations.{Table, declarations, total_words}
use Rattle.rules.specs.Steps.Evaluation.{Carriers}
use Rattle.rules.specs.Faults.Whole.{main_name}
use Rattle.rules.specs.Answers.{words_from, little_endian}
use Rattle.rules.specs.Agreement.{ending_in}
use Rattle.rules.specs.Stores.{Entry, Order, Fails}
use Rattle.rules.specs.Entries.{entries_in, is_list}
use Rattle.rules.specs.Calls.Memory.{Memory}
use Rattle.rules.specs.Calls.Run.{RunCall}
use Rattle.rules.specs.Calls.Trace.{TraceMemory, TraceCall}
use Rattle.isps.specs.Laws.Trace as laws

-- what stands in the bytes of an answer: number 4, which says yes or no, and number 5, an entry's number
abbrev pub said_in : List ℕ → ℕ
said_in answer = little_endian 4 (drop 16 answer)

abbrev pub entry_in : List ℕ → ℕ
entry_in answer = little_endian 4 (drop 20 answer)

-- ONE: number, answer and work memory are settled.
pub trace_settled : {text carriers entries fourth left left' : List ℕ} {budget n n' : ℕ} {before after after' : Memory}
    → TraceCall text carriers budget entries before after fourth left n → TraceCall text carriers budget entries before after' fourth left' n'
    → (n ≡ n') × (after ≡ after') × (left ≡ left')
trace_settled = laws.one_trace

module _ {text carriers entries fourth left : List ℕ} {budget n : ℕ} {before after : Memory}
    (call : TraceCall text carriers budget entries before after fourth left n) (enough : TraceMemory before fourth) (short : length text ≤ longest_text) where
  -- AS RUN from these carriers: its refusals come first, then 110; else ending, number, place and steps are those of Run.
  module _ {left' : List ℕ} {n' : ℕ} {after' : Memory} (run : RunCall text carriers budget before after' left' n') where
    pub as_refused : ending_in after'.answer ≡ 4 → (n ≡ n') × (after ≡ after')
    as_refused = laws.as_refused call enough short run

    pub no_list : ending_in after'.answer < 4 → is_list entries ≡ false → (n ≡ 110) × (ending_in after.answer ≡ 4)
    no_list = laws.list_refused call enough short run

    pub as_run : ending_in after'.answer < 4 → is_list entries ≡ true → (n ≡ n') × (take 16 after.answer ≡ take 16 after'.answer)
    as_run = laws.as_run call enough short run

  -- A call that is no refusal has read a description, and this is it.
  pub traced_description : ending_in after.answer < 4 → (d : Description) × flatten d ≡ (scan text).tokens
  traced_description = laws.traced_description call enough short

  module _ (d : Description) (stands : flatten d ≡ (scan text).tokens) where
    abbrev ds : Table
    ds = declarations d

    abbrev start : Carriers
    start = words_from (total_words ds) carriers

    -- which lists are the stores of an allowed order
    abbrev IsOrder : List Entry → Type 0
    IsOrder = Order ds (main_name ds) budget start

    -- EXACT: where the ending is Done or Stopped, the call says yes exactly where the list is that of some allowed order, and else it says no and names the first
    -- entry at which the list begins no order's stores, or its length.
    pub yes_exactly : ending_in after.answer < 2 → (said_in after.answer ≡ 1) ↔ IsOrder (entries_in entries)
    yes_exactly = laws.yes_exactly call enough short d stands

    pub no_exactly : ending_in after.answer < 2 → (IsOrder (entries_in entries) → ⊥)
        → (said_in after.answer ≡ 0) × Fails IsOrder (entries_in entries) (entry_in after.answer)
    no_exactly = laws.no_exactly call enough short d stands

    -- Where left to right ends otherwise, no list at all is that of an allowed order within the budget.
    pub no_order : 2 ≤ ending_in after.answer → ending_in after.answer < 4 → (l : List Entry) → IsOrder l → ⊥
    no_order = laws.no_order call enough short d stands
