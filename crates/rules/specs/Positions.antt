-- From an offset in a text to line and column, "both from 1". "Byte 10 ends a line; every other byte, tab and 13 included, is one column."
use Rattle.std.specs.Prelude.{ℕ, zero, suc, ◌+◌, true, false, List, [], ◌∷◌, eqb}
use Rattle.rules.specs.Whole.Sets.{member}

pub record Position : Type 0 where
  pub line : ℕ
  pub column : ℕ

abbrev pub position : ℕ → ℕ → Position
position l c = record { line = l; column = c }

abbrev pub line_end : ℕ
line_end = 10

-- where a text begins
abbrev pub origin : Position
origin = position 1 1

-- one byte on
unfoldable pub behind : ℕ → Position → Position
behind b p = elim (eqb b line_end) [ true ↦ position (p.line + 1) 1 | false ↦ position p.line (p.column + 1) ]

-- an offset in bytes on; "the end of the text gets what the next byte would have"
unfoldable pub further : Position → List ℕ → ℕ → Position
further p text zero = p
further p [] (suc n) = p
further p (b ∷ text) (suc n) = further (behind b p) text n

abbrev pub position_at : List ℕ → ℕ → Position
position_at text n = further origin text n

-- "Where the place is no offset in the text (as 1, 2, 60, 61), line and column are 1": places in carriers or an image (60 to 64), in a list of turns (81) or of
-- entries (110), and none (90, 91)
abbrev pub elsewhere : List ℕ
elsewhere = 1 ∷ 2 ∷ 60 ∷ 61 ∷ 62 ∷ 63 ∷ 64 ∷ 81 ∷ 90 ∷ 91 ∷ 110 ∷ []

-- line and column of a refusal or fault, by its number and place
unfoldable pub position_of : List ℕ → ℕ → ℕ → Position
position_of text number place = elim (member number elsewhere) [ true ↦ origin | false ↦ position_at text place ]
