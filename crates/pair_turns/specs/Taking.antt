-- The turns of a list over the table in bytes.
use Rattle.std.specs.Prelude.{ℕ, ◌≡◌, Bool, true, false, List}
use Rattle.rules.specs.Declarations.{Table}
use Rattle.rules.specs.Pair.{Total, side_of, turns_taken, total_of, no_turns}
use Rattle.runner.specs.Runs.{ending_of, steps_of}
use Rattle.runner.specs.declared.runs.Ended.{Ended}
use Rattle.runner.specs.declared.runs.Ended.TheVariants.{Done, Stopped}
use Rattle.pair_turns.specs.Words.{table_words}
use Rattle.pair_turns.specs.declared.taking.Last.{Last}

-- turns that ended well
abbrev pub well_ended : Bool → ℕ → Ended
well_ended true n = Stopped n
well_ended false n = Done n

-- what all turns came to
abbrev pub total_by : Ended → ℕ → List ℕ → Total
total_by e side after = record { ending = ending_of e; side = side; steps = steps_of e; carriers = table_words after }

pub record Took (first second : Table) (turns : List ℕ) (budget : ℕ) (before after : List ℕ) (r : Last) : Type 0 where
  pub same : total_of (no_turns (table_words before)) (turns_taken (side_of first second) turns budget (table_words before)) ≡ total_by r.ended r.side after
