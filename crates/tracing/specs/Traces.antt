-- The whole run, over the table of an accepted text and the memory in which its tokens have their cells: what it comes to, and what the matching is told.
use Rattle.std.specs.Prelude.{ℕ, ◌+◌, ◌*◌, ◌≤◌, ◌≡◌, List, length, take, drop, Result, Ok, Err}
use Rattle.std.proofs.Math.Option.{some}
use Rattle.rules.specs.Text.Scan.{scan}
use Rattle.rules.specs.Grammar.Trees.{Action, Description, flatten}
use Rattle.rules.specs.Declarations.{Word, Table, declarations, body_of, total_words}
use Rattle.rules.specs.Faults.Whole.{main_name}
use Rattle.rules.specs.Answers.{accepted, Checks}
use Rattle.rules.specs.Entries.{entries_in}
use Rattle.rules.specs.Steps.Evaluation.{Carriers}
use Rattle.rules.specs.Steps.Runs.{run_with}
use Rattle.laws_orders.specs.Cited.Flat.{Code}
use Rattle.laws_code.specs.Cited.Placed.{description_code}
use Rattle.promise.specs.Promise.{Promise}
use Rattle.operands.specs.Scene.{carrier_words}
use Rattle.runner.specs.declared.runs.Ended.{Ended}
use Rattle.runner.specs.declared.runs.Ended.TheVariants.{Done, Stopped, Paused, Fault as Failed}
use Rattle.runner.specs.Runs.{ending_of, steps_of}
use Rattle.telling.specs.Cited.Cells.{AllMarked}
use Rattle.telling.specs.Cited.Tracing.{groups_of, Traced, trace_run}
use Rattle.members.specs.Cells.{cells_in}
use Rattle.matching.specs.Matching.{untold, told_all}
use Rattle.matching.specs.Room.{Stands}
use Rattle.runner.specs.declared.turns.Turned.{Turned}
use Rattle.runner.specs.declared.turns.Turned.TheVariants.{At, Over, Stop}
use Rattle.stepping.specs.declared.steps.Fault.{Fault}
use Rattle.tracing.specs.Turns.{cells_at, grouping_at}

-- how a run stands behind k steps and one that leads there
abbrev pub ended_by : Result Turned Fault → ℕ → Ended
ended_by (Ok (At n d)) k = Paused (k + 1)
ended_by (Ok Over) k = Done (k + 1)
ended_by (Ok Stop) k = Stopped (k + 1)
ended_by (Err f) k = Failed f.number f.place k

-- an accepted text of n tokens whose MAIN begins at `start`; its carriers have `size` bytes, and nothing is told yet of the list in `entries`
pub record TraceAt (records values decls memory room entries : List ℕ) (start n size : ℕ) : Type 0 where
  pub text : List ℕ
  pub declared : ℕ
  pub words : ℕ
  pub accepts : Checks text (accepted declared words)
  pub description : Description
  pub stands : flatten description ≡ (scan text).tokens
  pub outer : Word
  pub promise : Promise text records values decls (scan text).tokens outer (declarations description) (description_code description)
  pub body : Action
  pub main : body_of (declarations description) (main_name (declarations description)) ≡ some body
  pub begins : start ≡ (description_code description).first (main_name (declarations description))
  pub carriers : size ≡ 8 * total_words (declarations description)
  pub long : cells_at + 4 * n ≤ length memory
  pub marked : AllMarked (cells_in (drop cells_at memory) n) description (length (flatten description))
  pub nothing : Stands (entries_in entries) room (untold (entries_in entries))

module _ {records values decls memory room entries : List ℕ} {start n size : ℕ} (v : TraceAt records values decls memory room entries start n size) where
  abbrev pub table_of : Table
  table_of = declarations v.description

  abbrev pub code_of : Code
  code_of = description_code v.description

  -- the carriers in the memory
  abbrev pub words_in : List ℕ → Carriers
  words_in bytes = carrier_words (total_words table_of) (take size bytes)

  -- what the tracing machine comes to
  abbrev pub traced_by : ℕ → Traced
  traced_by budget = trace_run table_of code_of (grouping_at memory n) (main_name table_of) budget (words_in memory)

  pub record TraceTold (budget : ℕ) (memory' room' : List ℕ) (r : Ended) : Type 0 where
    pub run : (traced_by budget).run ≡ run_with (ending_of r) (steps_of r) (words_in memory')
    pub tells : Stands (entries_in entries) room' (told_all (groups_of (traced_by budget).reports) (untold (entries_in entries)))
