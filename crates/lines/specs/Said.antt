-- How a run ended, as people read it, by the numbers of its answer.
use Rattle.std.specs.Prelude.{ℕ, List, ◌++◌}
use Rattle.rules.specs.Text.Bytes.{bytes}
use Rattle.lines.specs.declared.answers.Ending.{Ending}
use Rattle.lines.specs.declared.answers.Ending.TheVariants.{Done, Stopped, Paused, Fault, Refused, Unbounded, Other}
use Rattle.lines.specs.Digits.{decimal_bytes}
use Rattle.lines.specs.Endings.{labelled, refused_bytes}

-- `done after N steps`
abbrev pub steps_bytes : List ℕ → ℕ → List ℕ
steps_bytes how steps = labelled how steps ++ bytes " steps"

-- `LINE:COLUMN`
abbrev pub place_bytes : ℕ → ℕ → List ℕ
place_bytes line column = decimal_bytes line ++ labelled (bytes ":") column

-- `LINE:COLUMN: fault NUMBER after N steps`
abbrev pub fault_bytes : ℕ → ℕ → ℕ → ℕ → List ℕ
fault_bytes line column number steps = place_bytes line column ++ (labelled (bytes ": fault ") number ++ steps_bytes (bytes " after ") steps)

-- by the ending
unfoldable pub said_bytes : Ending → ℕ → ℕ → ℕ → ℕ → List ℕ
said_bytes Done line column number steps = steps_bytes (bytes "done after ") steps
said_bytes Stopped line column number steps = steps_bytes (bytes "stopped after ") steps
said_bytes Paused line column number steps = steps_bytes (bytes "paused after ") steps
said_bytes Fault line column number steps = fault_bytes line column number steps
said_bytes Refused line column number steps = refused_bytes line column number
said_bytes Unbounded line column number steps = refused_bytes line column number
said_bytes (Other code) line column number steps = refused_bytes line column number
