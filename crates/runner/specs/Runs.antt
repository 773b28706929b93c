-- The run with a budget, over the table.
use Rattle.std.specs.Prelude.{ℕ, zero, suc, ◌*◌, ◌≡◌, List, [], ◌∷◌, length, get_or}
use Rattle.std.proofs.Math.Option.{some}
use Rattle.rules.specs.Grammar.Trees.{Tokens, Action}
use Rattle.rules.specs.Declarations.{Word, Table, body_of, total_words}
use Rattle.rules.specs.Steps.Runs.{Ending, run_with, done, halted, paused, faulted, run}
use Rattle.laws_orders.specs.Cited.Flat.{Code}
use Rattle.promise.specs.Promise.{Promise}
use Rattle.operands.specs.Scene.{carrier_words}
use Rattle.runner.specs.declared.runs.Ended.{Ended}
use Rattle.runner.specs.declared.runs.Ended.TheVariants.{Done, Stopped, Paused, Fault as Broken}

-- a stack in an array: the newest of its numbers stands last
unfoldable pub stack_of : List ℕ → ℕ → List ℕ
stack_of links zero = []
stack_of links (suc d) = get_or links d 0 ∷ stack_of links d

-- an accepted text whose body `main` begins at `start`, and as many words as its carriers have
pub record RunAt (records values decls carriers : List ℕ) (start : ℕ) : Type 0 where
  pub text : List ℕ
  pub tokens : Tokens
  pub outer : Word
  pub table : Table
  pub code : Code
  pub promise : Promise text records values decls tokens outer table code
  pub main : Word
  pub body : Action
  pub declared : body_of table main ≡ some body
  pub begins : start ≡ code.first main
  pub words : length carriers ≡ 8 * total_words table

abbrev pub ending_of : Ended → Ending
ending_of (Done n) = done
ending_of (Stopped n) = halted
ending_of (Paused n) = paused
ending_of (Broken m p n) = faulted m p

abbrev pub steps_of : Ended → ℕ
steps_of (Done n) = n
steps_of (Stopped n) = n
steps_of (Paused n) = n
steps_of (Broken m p n) = n

pub record RunAnswer {records values decls carriers : List ℕ} {start : ℕ} (v : RunAt records values decls carriers start) (budget : ℕ) (after : List ℕ) (r : Ended) : Type 0 where
  pub same : run v.table v.main budget (carrier_words (total_words v.table) carriers)
      ≡ run_with (ending_of r) (steps_of r) (carrier_words (total_words v.table) after)
