-- From bytes to tokens, with the refusals 10 to 13. A text is read from left to right and the first fault is the answer: of those in the 10s it has
-- the smallest place, and where token 8,193 is itself malformed its number is smaller than 13.
use Rattle.std.specs.Prelude.{ℕ, zero, suc, ◌+◌, ◌-◌, Bool, true, false, ◌&&◌, List, [], ◌∷◌, map, leb, ltb, eqb, length, take}
use Rattle.std.proofs.Math.Option.{Option, none, some}
use Rattle.rules.specs.Limits.{longest_name, most_tokens}
use Rattle.rules.specs.Text.Bytes.{Class, class_of, leading, fold, in_name, in_constant, in_comment}
use Rattle.rules.specs.Text.Bytes.{forbidden, blank, exclamation, letter, digit, dot, prefix, query, mark, other}
use Rattle.rules.specs.Text.Tokens.{Kind, Name, Const, Masked, Info, Token, tk, Spelling, keywords, marks}
use Rattle.rules.specs.Text.Constants.{Constant, malformed, constant, is_query, any, digit_bits, decimal, based}

-- What stands at a place. Each takes its first byte and as many behind it as it says: nothing (a blank, a comment) or a token; or it is refused.
pub data Lexeme : Type 0 where
  no_lexeme : ℕ → Lexeme
  token : ℕ → Token → Lexeme
  bad_lexeme : ℕ → Lexeme

unfoldable pub same_bytes : List ℕ → List ℕ → Bool
same_bytes [] [] = true
same_bytes [] (c ∷ cs) = false
same_bytes (b ∷ bs) [] = false
same_bytes (b ∷ bs) (c ∷ cs) = eqb b c && same_bytes bs cs

-- a word that is spelled like a keyword is one, and any other is a name
unfoldable pub word_kind : List Spelling → List ℕ → Kind
word_kind [] w = Name
word_kind (s ∷ ss) w = elim (same_bytes s.written w) [ true ↦ s.kind | false ↦ word_kind ss w ]

-- the first mark that the text goes on with
unfoldable pub mark_at : List Spelling → List ℕ → Option Spelling
mark_at [] bs = none
mark_at (s ∷ ss) bs = elim (same_bytes s.written (take (length s.written) bs)) [ true ↦ some s | false ↦ mark_at ss bs ]

abbrev pub plain_info : ℕ → Info
plain_info p = record { place = p; word = []; value = 0; free = 0; bits = 0 }

abbrev pub word_info : ℕ → List ℕ → Info
word_info p w = record { place = p; word = w; value = 0; free = 0; bits = 0 }

abbrev pub constant_info : ℕ → ℕ → ℕ → ℕ → Info
constant_info p v f n = record { place = p; word = []; value = v; free = f; bits = n }

-- a word of a run of name bytes, at p
unfoldable pub word_lexeme : ℕ → List ℕ → Lexeme
word_lexeme p bs =
    elim (leb (length bs) longest_name)
    [ true ↦ token (length bs - 1) (tk (word_kind keywords (map fold bs)) (word_info p (map fold bs))) | false ↦ bad_lexeme 11 ]

-- a constant at p, with n bytes behind its first
unfoldable pub constant_lexeme : ℕ → ℕ → Kind → Constant → Lexeme
constant_lexeme p n k malformed = bad_lexeme 12
constant_lexeme p n k (constant v f b) = token n (tk k (constant_info p v f b))

abbrev pub masked_kind : Bool → Kind
masked_kind true = Masked
masked_kind false = Const

unfoldable pub mark_lexeme : ℕ → Option Spelling → Lexeme
mark_lexeme p none = bad_lexeme 10
mark_lexeme p (some s) = token (length s.written - 1) (tk s.kind (plain_info p))

-- what stands at p, where the text goes on with the byte b and then bs, by b's class
unfoldable pub lexeme_by : Class → ℕ → ℕ → List ℕ → Lexeme
lexeme_by forbidden p b bs = bad_lexeme 10
lexeme_by blank p b bs = no_lexeme 0
lexeme_by exclamation p b bs = no_lexeme (length (leading in_comment bs))
lexeme_by letter p b bs = word_lexeme p (leading in_name (b ∷ bs))
lexeme_by digit p b bs = constant_lexeme p (length (leading in_constant bs)) Const (decimal (leading in_constant (b ∷ bs)))
lexeme_by dot p b bs = bad_lexeme 10
lexeme_by prefix p b bs =
    constant_lexeme p (length (leading in_constant bs)) (masked_kind (any is_query (leading in_constant bs))) (based (digit_bits b) (leading in_constant bs))
lexeme_by query p b bs = bad_lexeme 10
lexeme_by mark p b bs = mark_lexeme p (mark_at marks (b ∷ bs))
lexeme_by other p b bs = bad_lexeme 10

unfoldable pub lexeme : ℕ → ℕ → List ℕ → Lexeme
lexeme p b bs = lexeme_by (class_of b) p b bs

-- What a scan comes to: all is well, or a number and a place.
pub data End : Type 0 where
  fine : End
  refuse : ℕ → ℕ → End

-- the tokens up to there
pub record Scan : Type 0 where
  pub tokens : List Token
  pub end : End

abbrev pub scan_end : End → Scan
scan_end e = record { tokens = []; end = e }

abbrev pub followed : Token → Scan → Scan
followed t s = record { tokens = t ∷ s.tokens; end = s.end }

-- The text from p on, with k more tokens allowed and n bytes of the last lexeme still to pass.
unfoldable pub scan_from : ℕ → ℕ → ℕ → List ℕ → Scan
scan_from p k n [] = scan_end fine
scan_from p k (suc n) (b ∷ bs) = scan_from (p + 1) k n bs
scan_from p k zero (b ∷ bs) =
    elim (lexeme p b bs) [
      | no_lexeme n ↦ scan_from (p + 1) k n bs
      | token n t ↦ elim (ltb 0 k) [ true ↦ followed t (scan_from (p + 1) (k - 1) n bs) | false ↦ scan_end (refuse 13 p) ]
      | bad_lexeme m ↦ scan_end (refuse m p)
    ]

unfoldable pub scan : List ℕ → Scan
scan text = scan_from 0 most_tokens 0 text
