-- THE LONGEST RUN (request 13): what is claimed of `isps_bound`. `BoundCall` (Calls/ of the crate `rules`) is its contract in src/lib.rt, which has no hypotheses; the
-- cost of a body and what can be reached from it are `cost_of` and `turns_from` in Bound.antt of the crate `rules`.
use Rattle.std.specs.Prelude.{ℕ, ◌<◌, ◌≤◌, ◌≡◌, true, false, List, ◌⊎◌, ◌↔◌, length}
use Rattle.rules.specs.Limits.{longest_text, most_steps}
use Rattle.rules.specs.Text.Scan.{scan}
use Rattle.rules.specs.Grammar.Trees.{Description, flatten}
use Rattle.rules.specs.Declarations.{Table, declarations}
use Rattle.rules.specs.Steps.Evaluation.{Carriers}
use Rattle.rules.specs.Steps.Runs.{Conf, Steps, begin}
use Rattle.rules.specs.Faults.Whole.{main_name}
use Rattle.rules.specs.Bound.{cost_of, turns_from, Reached}
use Rattle.rules.specs.Agreement.{ending_in, steps_in}
use Rattle.rules.specs.Calls.Memory.{Memory, Enough}
use Rattle.rules.specs.Calls.Run.{RunCall}
use Rattle.rules.specs.Calls.Bound.{BoundCall}
use Rattle.isps.specs.Laws.Bound as laws

-- Number, answer and work memory are settled: two results that the contract allows are the same.
pub bound_settled : {text : List ℕ} {before after after' : Memory} {n n' : ℕ} → BoundCall text before after n → BoundCall text before after' n'
    → (n ≡ n') × (after ≡ after')
bound_settled = laws.one_bound_call

-- A call that is no refusal has read a description, and this is it.
pub bound_description : {text : List ℕ} {before after : Memory} {n : ℕ} → BoundCall text before after n → Enough before → length text ≤ longest_text
    → (ending_in after.answer ≡ 4 → ⊥) → (d : Description) × flatten d ≡ (scan text).tokens
bound_description = laws.bound_description

module _ {text : List ℕ} {before after : Memory} {n : ℕ} (call : BoundCall text before after n) (enough : Enough before) (short : length text ≤ longest_text)
    (d : Description) (stands : flatten d ≡ (scan text).tokens) where
  abbrev ds : Table
  ds = declarations d

  -- Unless the text is refused, `no bound` is answered exactly when a REPEAT or RESTART can be reached by activations from MAIN, or the number passes 4,294,967,295,
  pub no_bound_exactly : (ending_in after.answer ≡ 4 → ⊥)
      → (ending_in after.answer ≡ 5) ↔ ((turns_from ds (main_name ds) ≡ true) ⊎ (most_steps < cost_of ds (main_name ds)))
  no_bound_exactly = laws.no_bound_exactly call enough short d stands

  -- where the first means that a REPEAT or RESTART stands in a body to which activations lead from MAIN (`Reached` in rules/specs/Bound.antt),
  pub reached_exactly : (ending_in after.answer ≡ 4 → ⊥) → (turns_from ds (main_name ds) ≡ true) ↔ Reached ds (main_name ds)
  reached_exactly = laws.reached_exactly call enough short d stands

  -- and a bound that is answered is what MAIN costs.
  pub bound_is : ending_in after.answer ≡ 0 → (turns_from ds (main_name ds) ≡ false) × (steps_in after.answer ≡ cost_of ds (main_name ds))
  bound_is = laws.bound_is call enough short d stands

  -- If a bound is answered, then from any carriers, in any order of single steps, no more steps can be taken;
  pub every_order_bounded : ending_in after.answer ≡ 0 → (s : Carriers) (k : ℕ) (c : Conf) → Steps ds k (begin ds (main_name ds) s) c → k ≤ steps_in after.answer
  every_order_bounded = laws.every_order_bounded call enough short d stands

-- and `isps_run` of the same text, from whatever carriers, with a budget of that size does not answer Paused.
pub never_paused : {text : List ℕ} {before after : Memory} {n : ℕ} → BoundCall text before after n → Enough before → ending_in after.answer ≡ 0
    → {carriers left : List ℕ} {budget m : ℕ} {lent returned : Memory} → RunCall text carriers budget lent returned left m → Enough lent
    → length text ≤ longest_text → steps_in after.answer ≤ budget → ending_in returned.answer ≡ 2 → ⊥
never_paused call enough zero run lent = laws.never_paused call enough zero run lent
