-- Words and marks as numbers, by which keywords and marks are found: one comparison of numbers in the place of one for each byte.
use Rattle.std.specs.Prelude.{ℕ, ◌+◌, ◌*◌, ◌%◌, true, false, List, [], ◌∷◌, eqb, take, drop, Option, Some, None}
use Rattle.rules.specs.Text.Tokens.{Spelling, marks, kind_no}
use Rattle.lexemes.specs.declared.lexemes.Lexeme.{Lexeme}
use Rattle.lexemes.specs.declared.lexemes.Lexeme.TheVariants.{Token as Found}

-- the number whose digits the bytes give, the first the lowest
unfoldable pub code_of : (ℕ → ℕ) → ℕ → List ℕ → ℕ
code_of digit base [] = 0
code_of digit base (b ∷ bs) = digit b + base * code_of digit base bs

-- a word's bytes are letters in upper case, digits and dots: 1 to 63 is enough for each
abbrev pub word_digit : ℕ → ℕ
word_digit b = (b + 32) % 64

abbrev pub word_code : List ℕ → ℕ
word_code w = code_of word_digit 64 w

-- what follows a mark can be any byte
abbrev pub mark_digit : ℕ → ℕ
mark_digit b = b + 1

abbrev pub mark_code : List ℕ → ℕ
mark_code w = code_of mark_digit 257 w

-- the kind of the first spelling that has the number n, and 0, a name's, where none has
unfoldable pub kind_by : (List ℕ → ℕ) → ℕ → List Spelling → ℕ
kind_by code n [] = 0
kind_by code n (s ∷ ss) = elim (eqb n (code s.written)) [ true ↦ kind_no s.kind | false ↦ kind_by code n ss ]

-- the same, where one has
unfoldable pub kind_found : (List ℕ → ℕ) → ℕ → List Spelling → Option ℕ
kind_found code n [] = None
kind_found code n (s ∷ ss) = elim (eqb n (code s.written)) [ true ↦ Some (kind_no s.kind) | false ↦ kind_found code n ss ]

-- the token of a mark
abbrev pub mark_token : ℕ → ℕ → Lexeme
mark_token kind more = Found (record { more = more; kind = kind; size = 0; value = 0; free = 0 })

-- the marks of two bytes, and those of one
abbrev pub pairs : List Spelling
pairs = take 3 marks

abbrev pub singles : List Spelling
singles = drop 3 marks
