-- The line that is written for an answer: `passes`, or `LINE:COLUMN: refused NUMBER` and why.
use Rattle.std.specs.Prelude.{ℕ, true, false, List, ◌++◌, eqb}
use Rattle.rules.specs.Text.Bytes.{bytes}
use Rattle.lines.specs.declared.answers.Ending.{Ending}
use Rattle.lines.specs.declared.answers.Ending.TheVariants.{Done, Stopped, Paused, Fault, Refused, Unbounded, Other}
use Rattle.lines.specs.Endings.{refused_bytes}

abbrev pub no_test : List ℕ
no_test = bytes ": the test is not the name of a body\n"

abbrev pub no_output : List ℕ
no_output = bytes ": the output is not the name of a storage carrier\n"

abbrev pub too_early : List ℕ
too_early = bytes ": a path writes the output here before one activation of the test has ended\n"

abbrev pub not_accepted : List ℕ
not_accepted = bytes ": the text is not accepted\n"

-- why, by the number
unfoldable pub reason_bytes : ℕ → List ℕ
reason_bytes number =
    elim (eqb number 90) [
      | true ↦ no_test
      | false ↦ elim (eqb number 91) [ true ↦ no_output | false ↦ elim (eqb number 92) [ true ↦ too_early | false ↦ not_accepted ] ]
    ]

abbrev pub passed : List ℕ
passed = bytes "passes\n"

-- by the ending, the number, the line and the column
unfoldable pub report_bytes : Ending → ℕ → ℕ → ℕ → List ℕ
report_bytes Done number line column = passed
report_bytes Stopped number line column = refused_bytes line column number ++ reason_bytes number
report_bytes Paused number line column = refused_bytes line column number ++ reason_bytes number
report_bytes Fault number line column = refused_bytes line column number ++ reason_bytes number
report_bytes Refused number line column = refused_bytes line column number ++ reason_bytes number
report_bytes Unbounded number line column = refused_bytes line column number ++ reason_bytes number
report_bytes (Other code) number line column = refused_bytes line column number ++ reason_bytes number
