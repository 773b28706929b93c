-- One turn over the table in bytes.
use Rattle.std.specs.Prelude.{ℕ, ◌*◌, ◌≤◌, ◌≡◌, List, drop}
use Rattle.std.proofs.Math.Option.{some}
use Rattle.cells.specs.Cells.{cells}
use Rattle.rules.specs.Grammar.Trees.{Tokens, Action}
use Rattle.rules.specs.Declarations.{Word, Table, body_of, total_words}
use Rattle.rules.specs.Steps.Runs.{run_with, run}
use Rattle.rules.specs.Faults.Whole.{main_name}
use Rattle.rules.specs.Pair.{Side, second_side, turn_run}
use Rattle.laws_orders.specs.Cited.Flat.{Code}
use Rattle.promise.specs.Promise.{Promise}
use Rattle.runner.specs.Runs.{ending_of, steps_of}
use Rattle.runner.specs.declared.runs.Ended.{Ended}
use Rattle.pair_turns.specs.Words.{table_words, Sees}

-- an accepted description whose MAIN begins at `begin`, whatever its carriers are
pub record Runnable (records values decls : List ℕ) (begin : ℕ) (ds : Table) : Type 0 where
  pub text : List ℕ
  pub tokens : Tokens
  pub outer : Word
  pub code : Code
  pub promise : Promise text records values decls tokens outer ds code
  pub body : Action
  pub declared : body_of ds (main_name ds) ≡ some body
  pub begins : begin ≡ code.first (main_name ds)

-- its run on the first w words of bytes; those behind are as they were
pub record FrontRun (ds : Table) (w budget : ℕ) (before after : List ℕ) (r : Ended) : Type 0 where
  pub same : run ds (main_name ds) budget (cells 8 w before) ≡ run_with (ending_of r) (steps_of r) (cells 8 w after)
  pub behind : drop (8 * w) after ≡ drop (8 * w) before

-- a side that sees w words of the table, by their numbers in `view`
abbrev pub seeing : Table → ℕ → List ℕ → Side
seeing ds w view = record { declared = ds; view = cells 2 w view }

-- a turn of a side, from a table and to another
pub record Turned (x : Side) (budget : ℕ) (before after : List ℕ) (r : Ended) : Type 0 where
  pub same : turn_run x budget (table_words before) ≡ run_with (ending_of r) (steps_of r) (table_words after)

-- two descriptions over a table of that many bytes
pub record Sides (records₀ values₀ decls₀ : List ℕ) (begin₀ w₀ : ℕ) (records₁ values₁ decls₁ : List ℕ) (begin₁ w₁ : ℕ) (view : List ℕ) (size : ℕ) : Type 0 where
  pub first : Table
  pub second : Table
  pub runs₀ : Runnable records₀ values₀ decls₀ begin₀ first
  pub runs₁ : Runnable records₁ values₁ decls₁ begin₁ second
  pub count₀ : w₀ ≡ total_words first
  pub count₁ : w₁ ≡ total_words second
  pub front : 8 * w₀ ≤ size
  pub sees : Sees view w₁ size
  pub views : cells 2 w₁ view ≡ (second_side first second).view
