-- Laws of misspellings: a lexeme is refused with 10, 11 or 12, so its number tells the misspelling.
use Rattle.std.specs.Prelude.{◌≡◌, refl, Bool, true, false, List, ◌∷◌, ℕ, leb, length}
use Rattle.std.proofs.Math.Option.{Option, none, some}
use Rattle.rules.specs.Text.Bytes.{Class, class_of, forbidden, blank, exclamation, letter, digit, dot, prefix, query, mark, other}
use Rattle.rules.specs.Text.Tokens.{Kind, Spelling}
use Rattle.rules.specs.Text.Constants.{Constant, malformed, constant}
use Rattle.rules.specs.Text.Scan.{Lexeme, no_lexeme, token, bad_lexeme, word_lexeme, constant_lexeme, mark_lexeme, lexeme_by, lexeme}
use Rattle.lexemes.specs.Misspellings.{refusal_number, misspelling}

abbrev pub Numbered : Lexeme → Type 0
Numbered (no_lexeme n) = Unit
Numbered (token n t) = Unit
Numbered (bad_lexeme m) = m ≡ refusal_number (misspelling m)

word : (p : ℕ) (w : List ℕ) → Numbered (word_lexeme p w)
unfolding word_lexeme
word p w = by (leb (length w) 32) refl
  where
    by : (r : Bool) → leb (length w) 32 ≡ r → Numbered (word_lexeme p w)
    by true e = rw (word_lexeme, e) tt
    by false e = rw (word_lexeme, e) refl

constants : (p n : ℕ) (k : Kind) (x : Constant) → Numbered (constant_lexeme p n k x)
unfolding constant_lexeme
constants p n k malformed = refl
constants p n k (constant v f b) = tt

marks : (p : ℕ) (o : Option Spelling) → Numbered (mark_lexeme p o)
unfolding mark_lexeme
marks p none = refl
marks p (some s) = tt

by_class : (c : Class) (p b : ℕ) (bs : List ℕ) → Numbered (lexeme_by c p b bs)
unfolding lexeme_by
by_class forbidden p b bs = refl
by_class blank p b bs = tt
by_class exclamation p b bs = tt
by_class letter p b bs = word p _
by_class digit p b bs = constants p _ _ _
by_class dot p b bs = refl
by_class prefix p b bs = constants p _ _ _
by_class query p b bs = refl
by_class mark p b bs = marks p _
by_class other p b bs = refl

pub numbered : (p b : ℕ) (bs : List ℕ) → Numbered (lexeme p b bs)
unfolding lexeme
numbered p b bs = by_class (class_of b) p b bs
