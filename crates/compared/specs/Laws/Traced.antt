-- Laws of what is answered to a list, by who refuses or how the run ended.
-- Assumes nothing.
use Rattle.std.specs.Prelude.{ℕ, ◌≤◌, ◌≡◌, true, false, List, [], ◌∷◌, length, take, drop, ⊤, Result}
use Rattle.std.proofs.Common.{sym, ap, ◌∙◌, subst, arith}
use Rattle.rules.specs.Text.Scan.{scan}
use Rattle.rules.specs.Grammar.Trees.{flatten}
use Rattle.rules.specs.Declarations.{outer_name, total_words}
use Rattle.rules.specs.Faults.Whole.{main_name}
use Rattle.rules.specs.Steps.Runs.{run}
use Rattle.rules.specs.Steps.Orders.{Well}
use Rattle.rules.specs.Stores.{TraceVerdict, TraceAnswer}
use Rattle.rules.specs.Entries.{entries_in, is_list}
use Rattle.rules.specs.Answers.{ended, result_of, Runs, ran, words_from, buffer_of, refused_numbers}
use Rattle.rules.specs.Calls.Trace.{denied, Traces, not_run, no_list, not_ended, matched, trace_numbers, says_yes, first_bad}
use Rattle.reading.specs.Reading.{Reading}
use Rattle.telling.specs.Cited.Cells.{AllMarked}
use Rattle.members.specs.Cells.{cells_in}
use Rattle.matching.specs.Matching.{untold, answer_in}
use Rattle.matching.specs.Room.{matching_in, Stands}
use Rattle.matching.specs.Named.{verdict_of}
use Rattle.matching.specs.declared.answering.Mismatch.{Mismatch}
use Rattle.operands.specs.Scene.{carrier_words}
use Rattle.tracing.specs.Turns.{cells_at}
use Rattle.tracing.specs.Traces.{TraceAt, words_in, TraceTold}
use Rattle.tracing.specs.Laws.Answers.{run_is, list_answered}
use Rattle.lent.specs.Numbers.{numbers_of}
use Rattle.lent.specs.declared.answers.Answer.{Answer}
use Rattle.runner.specs.Runs.{ending_of, steps_of}
use Rattle.runner.specs.declared.runs.Ended.{Ended}
use Rattle.runner.specs.declared.runs.Ended.TheVariants.{Done, Stopped, Paused, Fault as Broken}
use Rattle.starts.specs.Starts.{Begins, Declines}
use Rattle.buffers.specs.Laws.Buffers.{words_cells}
use Rattle.accepted.specs.Accepted.{Accepts, described_by, table_by}
use Rattle.preparing.specs.Prepared.{Prepared}
use Rattle.compared.specs.Laid.{Laid}
use Rattle.compared.specs.Traced.{trace_of, Traced}

-- the numbers of a verdict, and of an ending, by its case
pub verdict_numbers : (ending steps : ℕ) {v w : Result ⊤ Mismatch} {ns : List ℕ} → ns ≡ ending ∷ 0 ∷ 0 ∷ steps ∷ says_yes (verdict_of w) ∷ first_bad (verdict_of w) ∷ 0 ∷ 0 ∷ [] → v ≡ w
    → ns ≡ ending ∷ 0 ∷ 0 ∷ steps ∷ says_yes (verdict_of v) ∷ first_bad (verdict_of v) ∷ 0 ∷ 0 ∷ []
verdict_numbers ending steps q r = q ∙ sym (ap (λ x. ending ∷ 0 ∷ 0 ∷ steps ∷ says_yes (verdict_of x) ∷ first_bad (verdict_of x) ∷ 0 ∷ 0 ∷ []) r)

pub numbers_by : (text : List ℕ) (v : TraceVerdict) {e f : Ended} {ns : List ℕ} → ns ≡ trace_numbers text (trace_of f v) → e ≡ f → ns ≡ trace_numbers text (trace_of e v)
numbers_by text v q r = q ∙ sym (ap (λ x. trace_numbers text (trace_of x v)) r)

-- those of a verdict that is known
pub said_numbers : (ending steps : ℕ) {u v : TraceVerdict} {ns : List ℕ} → ns ≡ ending ∷ 0 ∷ 0 ∷ steps ∷ says_yes u ∷ first_bad u ∷ 0 ∷ 0 ∷ [] → u ≡ v
    → ns ≡ ending ∷ 0 ∷ 0 ∷ steps ∷ says_yes v ∷ first_bad v ∷ 0 ∷ 0 ∷ []
said_numbers ending steps q r = q ∙ ap (λ x. ending ∷ 0 ∷ 0 ∷ steps ∷ says_yes x ∷ first_bad x ∷ 0 ∷ 0 ∷ []) r

-- the words of carriers that are laid are those of the carriers
words_are : {records carriers before memory : List ℕ} {n : ℕ} (k : ℕ) → Laid records carriers before memory n → carrier_words k (take (length carriers) memory) ≡ words_from k carriers
words_are {carriers = carriers} k laid = ap (carrier_words k) laid.front ∙ words_cells k carriers

module _ {text records values decls : List ℕ} {m words n : ℕ} (v : Accepts text records values decls m words n) where
  abbrev reads : flatten (described_by v) ≡ (scan text).tokens
  reads = v.lawful.declares.reads

  abbrev pub reading_by : Reading records decls m n
  reading_by = record {
    text = text;
    values = values;
    tokens = (scan text).tokens;
    description = described_by v;
    ready = v.lawful.declares.ready;
    count = v.lawful.declares.count;
  }

  -- carriers that are refused
  pub refused_carriers : {carriers entries : List ℕ} {budget number place : ℕ} {a : Answer} → Declines (table_by v) carriers number place
      → numbers_of a ≡ refused_numbers text number place → Traced text carriers budget entries a
  refused_carriers {carriers} {budget = budget} {number} {place} d e = record {
    trace = denied number place;
    traces = not_run (subst (Runs text carriers budget) (d.refuses budget) (ran _ reads v.verdict));
    is = e;
  }

  module _ {carriers : List ℕ} (b : Begins (table_by v) carriers) where
    -- bytes that are no list
    pub refused_list : {entries : List ℕ} {budget : ℕ} {a : Answer} → is_list entries ≡ false → numbers_of a ≡ refused_numbers text 110 0 → Traced text carriers budget entries a
    refused_list {budget = budget} f e = record {
      trace = denied 110 0;
      traces = no_list (subst (Runs text carriers budget) (b.runs budget) (ran _ reads v.verdict)) f;
      is = e;
    }

    -- the run of the description over the fourth buffer, in which the carriers and the cells are laid
    module _ {records' values' before memory room entries : List ℕ} {start : ℕ} (p : Prepared v records' values' start) (laid : Laid records carriers before memory n)
        (enough : 65536 ≤ length before) (nothing : Stands (entries_in entries) room (untold (entries_in entries))) where
      abbrev pub to_trace : TraceAt records' values' decls memory room entries start n (length carriers)
      to_trace = record {
        text = text;
        declared = m;
        words = words;
        accepts = v.verdict;
        description = described_by v;
        stands = reads;
        outer = (outer_name (described_by v)).word;
        promise = p.promise;
        body = p.body;
        main = p.declared;
        begins = p.begins;
        carriers = b.long;
        long = omega (arith, laid.long, v.lawful.declares.count, v.lawful.declares.ready.holds.few);
        marked = subst (AllMarked (cells_in (drop cells_at memory) n) (described_by v)) (v.lawful.declares.count ∙ sym (ap length reads)) (laid.marked decls m reading_by);
        nothing = nothing;
      }

      module _ {budget : ℕ} {memory' room' : List ℕ} {e : Ended} (t : TraceTold to_trace budget memory' room' e) where
        runs_so : Runs text carriers budget (ended (ending_of e) (steps_of e) (buffer_of (words_in to_trace memory')))
        runs_so =
            subst (Runs text carriers budget)
            (b.runs budget ∙ ap (λ ws. result_of (run (table_by v) (main_name (table_by v)) budget ws)) (sym (words_are (total_words (table_by v)) laid)) ∙ ap result_of (run_is to_trace t))
            (ran _ reads v.verdict)

        answers_so : Well (ending_of e)
            → TraceAnswer (table_by v) (main_name (table_by v)) budget (words_from (total_words (table_by v)) carriers) (entries_in entries)
            (answer_in (matching_in (entries_in entries) room') (length (entries_in entries)))
        answers_so w =
            subst (λ ws. TraceAnswer (table_by v) (main_name (table_by v)) budget ws (entries_in entries) (answer_in (matching_in (entries_in entries) room') (length (entries_in entries)))) (words_are (total_words (table_by v)) laid)
            (list_answered to_trace t w)

        traces_so : is_list entries ≡ true → Traces text carriers budget entries (trace_of e (answer_in (matching_in (entries_in entries) room') (length (entries_in entries))))
        traces_so listed = by e runs_so answers_so
          where
            by : (f : Ended) → Runs text carriers budget (ended (ending_of f) (steps_of f) (buffer_of (words_in to_trace memory')))
                → (Well (ending_of f)
                → TraceAnswer (table_by v) (main_name (table_by v)) budget (words_from (total_words (table_by v)) carriers) (entries_in entries)
                (answer_in (matching_in (entries_in entries) room') (length (entries_in entries))))
                → Traces text carriers budget entries (trace_of f (answer_in (matching_in (entries_in entries) room') (length (entries_in entries))))
            by (Done k) r h = matched (described_by v) reads r listed tt (h tt)
            by (Stopped k) r h = matched (described_by v) reads r listed tt (h tt)
            by (Paused k) r h = not_ended r listed (λ w. w)
            by (Broken i q k) r h = not_ended r listed (λ w. w)

        pub traced_ended : {a : Answer} → is_list entries ≡ true
            → numbers_of a ≡ trace_numbers text (trace_of e (answer_in (matching_in (entries_in entries) room') (length (entries_in entries)))) → Traced text carriers budget entries a
        traced_ended listed is = record {
          trace = trace_of e (answer_in (matching_in (entries_in entries) room') (length (entries_in entries)));
          traces = traces_so listed;
          is = is;
        }
