-- How a run ended, and a refusal for people, as they are written, by the numbers of the answer.
use Rattle.std.specs.Prelude.{ℕ, List, ◌++◌}
use Rattle.rules.specs.Text.Bytes.{bytes}
use Rattle.lines.specs.declared.answers.Ending.{Ending}
use Rattle.lines.specs.declared.answers.Ending.TheVariants.{Done, Stopped, Paused, Fault, Refused, Unbounded, Other}
use Rattle.lines.specs.Digits.{decimal_bytes}

-- a number behind what says of what it is
abbrev pub labelled : List ℕ → ℕ → List ℕ
labelled label n = label ++ decimal_bytes n

-- by the ending: `done S`, `stopped S`, `paused S`, `fault NUMBER PLACE S`, `refused NUMBER PLACE`
unfoldable pub ending_bytes : Ending → ℕ → ℕ → ℕ → List ℕ
ending_bytes Done number place steps = labelled (bytes "done ") steps
ending_bytes Stopped number place steps = labelled (bytes "stopped ") steps
ending_bytes Paused number place steps = labelled (bytes "paused ") steps
ending_bytes Fault number place steps =
    labelled (bytes "fault ") number ++ (labelled (bytes " ") place ++ labelled (bytes " ") steps)
ending_bytes Refused number place steps = labelled (bytes "refused ") number ++ labelled (bytes " ") place
ending_bytes Unbounded number place steps = labelled (bytes "refused ") number ++ labelled (bytes " ") place
ending_bytes (Other code) number place steps = labelled (bytes "refused ") number ++ labelled (bytes " ") place

-- `LINE:COLUMN: refused NUMBER`, as compilers write it
abbrev pub refused_bytes : ℕ → ℕ → ℕ → List ℕ
refused_bytes line column number = decimal_bytes line ++ (labelled (bytes ":") column ++ labelled (bytes ": refused ") number)
