-- What is said of a list, by the numbers of the answer.
use Rattle.std.specs.Prelude.{ℕ, true, false, List, ◌++◌, eqb}
use Rattle.rules.specs.Text.Bytes.{bytes}
use Rattle.lines.specs.declared.answers.Ending.{Ending}
use Rattle.lines.specs.Endings.{labelled, refused_bytes}
use Rattle.lines.specs.Said.{place_bytes, said_bytes}

abbrev pub too_many : List ℕ
too_many = bytes ": the list has more than 4,096 entries\n"

abbrev pub not_accepted : List ℕ
not_accepted = bytes ": the text is not accepted\n"

-- why a list or its text is refused, by the number
unfoldable pub reason_bytes : ℕ → List ℕ
reason_bytes n = elim (eqb n 110) [ true ↦ too_many | false ↦ not_accepted ]

abbrev pub refusal_bytes : ℕ → ℕ → ℕ → List ℕ
refusal_bytes line column number = refused_bytes line column number ++ reason_bytes number

-- the ending of a run that faults or pauses
abbrev pub unended_bytes : Ending → ℕ → ℕ → ℕ → ℕ → List ℕ
unended_bytes ending line column number steps =
    said_bytes ending line column number steps ++ bytes ": a list is compared only with a run that is done or stopped\n"

-- some allowed order makes just those stores
abbrev pub yes_bytes : Ending → ℕ → ℕ → ℕ → ℕ → List ℕ
yes_bytes ending line column number steps =
    bytes "yes: " ++ (said_bytes ending line column number steps ++ bytes ", and an allowed order makes just these stores\n")

-- only more entries could help
abbrev pub short_bytes : ℕ → List ℕ
short_bytes n = labelled (bytes "no: the list ends before entry ") n ++ bytes ", and each allowed order that begins so stores more\n"

-- the first entry that cannot be
abbrev pub head_bytes : ℕ → ℕ → ℕ → List ℕ
head_bytes line column n = place_bytes line column ++ labelled (bytes ": no: entry ") n

-- before its word, and behind it
abbrev pub bad_bytes : ℕ → ℕ → ℕ → List ℕ
bad_bytes line column n = head_bytes line column n ++ bytes " stores "

abbrev pub behind_bytes : List ℕ
behind_bytes = bytes ", and no allowed order does so behind the entries before it\n"

abbrev pub no_place_bytes : ℕ → ℕ → List ℕ
no_place_bytes n place = labelled (bytes "no: entry ") n ++ (labelled (bytes ": the text has no place ") place ++ bytes "\n")

abbrev pub no_word_bytes : ℕ → ℕ → ℕ → ℕ → List ℕ
no_word_bytes line column n word = head_bytes line column n ++ (labelled (bytes ": the description has no word ") word ++ bytes "\n")

abbrev pub unreadable_bytes : ℕ → List ℕ
unreadable_bytes line = labelled (bytes "line ") line ++ bytes " of the list is no entry: three decimals, PLACE WORD VALUE\n"
