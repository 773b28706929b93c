-- What a run that was traced says: it is the run of MAIN from left to right, and where it ends well the matching has the answer about the list.
-- Assumes nothing.
use Rattle.std.specs.Prelude.{ℕ, ◌≡◌, List, length, drop}
use Rattle.std.proofs.Common.{sym, ◌∙◌, subst}
use Rattle.rules.specs.Faults.Whole.{main_name}
use Rattle.rules.specs.Stores.{TraceAnswer}
use Rattle.rules.specs.Entries.{entries_in}
use Rattle.rules.specs.Steps.Runs.{run_with, run}
use Rattle.laws_orders.proofs.Orders.Ends.{EndsWell}
use Rattle.runner.specs.declared.runs.Ended.{Ended}
use Rattle.runner.specs.Runs.{ending_of, steps_of}
use Rattle.telling.specs.Cited.Cells.{Cells}
use Rattle.telling.proofs.Decides.{main_traces, marked_held}
use Rattle.members.specs.Cells.{cells_in}
use Rattle.matching.specs.Matching.{Matching, answer_in}
use Rattle.matching.specs.Room.{matching_in}
use Rattle.tracking.specs.Tracked.{groups_decide}
use Rattle.tracing.specs.Turns.{cells_at, grouping_at}
use Rattle.tracing.specs.Traces.{TraceAt, table_of, code_of, words_in, TraceTold}

module _ {records values decls memory room entries : List ℕ} {start n size : ℕ} (v : TraceAt records values decls memory room entries start n size) {budget : ℕ}
    {memory' room' : List ℕ} {r : Ended} (t : TraceTold v budget memory' room' r) where
  abbrev K : Cells
  K = cells_in (drop cells_at memory) n

  pub run_is : run (table_of v) (main_name (table_of v)) budget (words_in v memory) ≡ run_with (ending_of r) (steps_of r) (words_in v memory')
  run_is =
      let held = marked_held v.text v.declared v.words v.accepts v.description v.stands K v.marked in
      let same = (main_traces v.text v.declared v.words v.accepts v.description v.stands (code_of v) (grouping_at memory n) held (words_in v memory) budget).same in
      sym same ∙ t.run

  -- Done or Stopped
  pub list_answered : EndsWell (run_with (ending_of r) (steps_of r) (words_in v memory'))
      → TraceAnswer (table_of v) (main_name (table_of v)) budget (words_in v memory) (entries_in entries) (answer_in (matching_in (entries_in entries) room') (length (entries_in entries)))
  list_answered h =
      subst (λ (z : Matching). TraceAnswer (table_of v) (main_name (table_of v)) budget (words_in v memory) (entries_in entries) (answer_in z (length (entries_in entries)))) (sym t.tells.is)
      (groups_decide v.text v.declared v.words v.accepts v.description v.stands K v.marked (words_in v memory) budget (subst EndsWell (sym run_is) h) (entries_in entries))
