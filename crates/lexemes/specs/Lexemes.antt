-- The rules' lexemes as the values that the code hands about.
use Rattle.std.specs.Prelude.{ℕ, ◌+◌, length, Result, Ok, Err}
use Rattle.rules.specs.Text.Tokens.{Token, kind_no}
use Rattle.rules.specs.Text.Scan.{Lexeme as Stands, no_lexeme, token, bad_lexeme}
use Rattle.lexemes.specs.declared.lexemes.Lexeme.{Lexeme}
use Rattle.lexemes.specs.declared.lexemes.Lexeme.TheVariants.{Nothing, Token as Found}
use Rattle.lexemes.specs.declared.lexemes.Misspelling.{Misspelling}
use Rattle.lexemes.specs.Misspellings.{misspelling}

-- a word's length in bytes, a constant's in bits, 0 for a mark
abbrev pub size_of : Token → ℕ
size_of t = length t.info.word + t.info.bits

abbrev pub lexeme_of : Stands → Result Lexeme Misspelling
lexeme_of (no_lexeme n) = Ok (Nothing n)
lexeme_of (token n t) = Ok (Found (record { more = n; kind = kind_no t.kind; size = size_of t; value = t.info.value; free = t.info.free }))
lexeme_of (bad_lexeme m) = Err (misspelling m)
