-- Laws of what a run comes to, by who refuses or how it ended.
-- Assumes nothing.
use Rattle.std.specs.Prelude.{ℕ, ◌<◌, ◌≡◌, refl, List, length, get_or}
use Rattle.std.proofs.Common.{sym, ap, ◌∙◌, subst}
use Rattle.rules.specs.Declarations.{total_words}
use Rattle.rules.specs.Steps.Evaluation.{Carriers}
use Rattle.rules.specs.Steps.Runs.{Ending, done, halted, paused, faulted, Run, run}
use Rattle.rules.specs.Faults.Whole.{main_name}
use Rattle.rules.specs.Answers.{refusal, ended, result_of, Runs, ran, run_on, buffer_of, refused_numbers, ran_numbers}
use Rattle.rules.specs.Calls.Run.{ending_number}
use Rattle.lent.specs.Numbers.{numbers_of}
use Rattle.lent.specs.declared.answers.Answer.{Answer}
use Rattle.runner.specs.Runs.{RunAnswer, ending_of, steps_of}
use Rattle.runner.specs.declared.runs.Ended.{Ended}
use Rattle.starts.specs.Starts.{Begins, Declines}
use Rattle.buffers.specs.Laws.Buffers.{words_cells, buffer_back}
use Rattle.accepted.specs.Accepted.{Accepts, table_by}
use Rattle.preparing.specs.Prepared.{Prepared}
use Rattle.preparing.specs.Outcome.{Outcome}
use Rattle.preparing.specs.Laws.Prepared.{to_run}

-- the numbers of an ending, by its case
pub numbers_by : (text : List ℕ) {e f : Ended} {ns : List ℕ} → ns ≡ ran_numbers text (ending_of f) (steps_of f) → e ≡ f
    → ns ≡ ran_numbers text (ending_of e) (steps_of e)
numbers_by text q r = q ∙ sym (ap (λ x. ran_numbers text (ending_of x) (steps_of x)) r)

module _ {text records values decls : List ℕ} {m words n : ℕ} (v : Accepts text records values decls m words n) where
  -- carriers that are refused
  pub refused_carriers : {carriers : List ℕ} {budget number place : ℕ} {a : Answer} → Declines (table_by v) carriers number place
      → numbers_of a ≡ refused_numbers text number place → Outcome text carriers budget carriers a
  refused_carriers {carriers} {budget} {number} {place} d e =
      record {
        result = refusal number place;
        runs = subst (Runs text carriers budget) (d.refuses budget) (ran _ v.lawful.declares.reads v.verdict);
        is = e;
        left_is = refl;
      }

  -- the run itself
  pub run_ended : {records' values' carriers left : List ℕ} {start budget : ℕ} {e : Ended} {a : Answer} (p : Prepared v records' values' start) (b : Begins (table_by v) carriers)
      → RunAnswer (to_run v p b) budget left e → length left ≡ length carriers → ((i : ℕ) → get_or left i 0 < 256)
      → numbers_of a ≡ ran_numbers text (ending_of e) (steps_of e) → Outcome text carriers budget left a
  run_ended {carriers = carriers} {left} {budget = budget} {e} p b told long bytes is =
      let ds = table_by v in
      let k = total_words ds in
      let same : run_on ds carriers budget ≡ ended (ending_of e) (steps_of e) left =
      b.runs budget ∙ ap (λ ws. result_of (run_of ws)) (sym (words_cells k carriers)) ∙ ap result_of told.same
      ∙ ap (λ ws. ended (ending_of e) (steps_of e) (buffer_of ws)) (words_cells k left)
      ∙ ap (ended (ending_of e) (steps_of e)) (buffer_back k left (long ∙ b.long) bytes) in
      record {
        result = ended (ending_of e) (steps_of e) left;
        runs = subst (Runs text carriers budget) same (ran _ v.lawful.declares.reads v.verdict);
        is = is;
        left_is = refl;
      }
    where
      run_of : Carriers → Run
      run_of ws = run (table_by v) (main_name (table_by v)) budget ws

-- the number of an answer is the second of its numbers
pub ran_number : (text : List ℕ) (e : Ending) (n : ℕ) (a : Answer) → numbers_of a ≡ ran_numbers text e n → a.number ≡ ending_number e
ran_number text done n a q = cc
ran_number text halted n a q = cc
ran_number text paused n a q = cc
ran_number text (faulted m p) n a q = cc
