-- A scan is refused with a number below 20.
use Rattle.std.specs.Prelude.{ℕ, zero, suc, ◌+◌, ◌-◌, ◌<◌, Bool, true, false, List, [], ◌∷◌, map, leb, ltb, length}
use Rattle.std.proofs.Math.Option.{Option, none, some}
use Rattle.std.proofs.Common.{arith}
use Rattle.rules.specs.Limits.{longest_name}
use Rattle.rules.specs.Text.Bytes.{Class, class_of, leading, fold, in_name, in_constant}
use Rattle.rules.specs.Text.Bytes.{forbidden, blank, exclamation, letter, digit, dot, prefix, query, mark, other}
use Rattle.rules.specs.Text.Tokens.{Kind, Const, Token, tk, Spelling, keywords, marks}
use Rattle.rules.specs.Text.Constants.{Constant, malformed, constant, is_query, any, digit_bits, decimal, based}
use Rattle.rules.specs.Text.Scan.{Lexeme, no_lexeme, token, bad_lexeme, word_kind, mark_at, word_info, word_lexeme, constant_lexeme, masked_kind, mark_lexeme, lexeme_by, lexeme}
use Rattle.rules.specs.Text.Scan.{End, fine, refuse, Scan, scan_end, followed, scan_from, scan}

abbrev pub Below20 : End → Type 0
Below20 fine = Unit {0}
Below20 (refuse m p) = m < 20

abbrev LexemeBelow20 : Lexeme → Type 0
LexemeBelow20 (no_lexeme n) = Unit {0}
LexemeBelow20 (token n t) = Unit {0}
LexemeBelow20 (bad_lexeme m) = m < 20

word_below : (p : ℕ) (bs : List ℕ) → LexemeBelow20 (word_lexeme p bs)
unfolding word_lexeme
word_below p bs = by (leb (length bs) longest_name)
  where
    by :
        (b : Bool)
        → LexemeBelow20 (elim b [ true ↦ token (length bs - 1) (tk (word_kind keywords (map fold bs)) (word_info p (map fold bs))) | false ↦ bad_lexeme 11 ])
    by true = tt
    by false = omega arith

mark_below : (p : ℕ) (o : Option Spelling) → LexemeBelow20 (mark_lexeme p o)
unfolding mark_lexeme
mark_below p none = omega arith
mark_below p (some s) = tt

constant_below : (p n : ℕ) (k : Kind) (c : Constant) → LexemeBelow20 (constant_lexeme p n k c)
unfolding constant_lexeme
constant_below p n k malformed = omega arith
constant_below p n k (constant v f b) = tt

lexeme_below : (c : Class) (p b : ℕ) (bs : List ℕ) → LexemeBelow20 (lexeme_by c p b bs)
unfolding lexeme_by
lexeme_below forbidden p b bs = omega arith
lexeme_below blank p b bs = tt
lexeme_below exclamation p b bs = tt
lexeme_below letter p b bs = word_below p (leading in_name (b ∷ bs))
lexeme_below digit p b bs = constant_below p (length (leading in_constant bs)) Const (decimal (leading in_constant (b ∷ bs)))
lexeme_below dot p b bs = omega arith
lexeme_below prefix p b bs = let ds = leading in_constant bs in constant_below p (length ds) (masked_kind (any is_query ds)) (based (digit_bits b) ds)
lexeme_below query p b bs = omega arith
lexeme_below mark p b bs = mark_below p (mark_at marks (b ∷ bs))
lexeme_below other p b bs = omega arith

scan_below : (bs : List ℕ) (p k n : ℕ) → Below20 (scan_from p k n bs).end
unfolding scan_from lexeme
scan_below [] p k n = tt
scan_below (b ∷ bs) p k (suc n) = scan_below bs (p + 1) k n
scan_below (b ∷ bs) p k zero = by (lexeme p b bs) (lexeme_below (class_of b) p b bs) (scan_below bs (p + 1))
  where
    taken :
        (c : Bool) (n : ℕ) (t : Token) → Below20 (scan_from (p + 1) (k - 1) n bs).end
        → Below20 (elim c as (λ x. Scan) [ true ↦ followed t (scan_from (p + 1) (k - 1) n bs) | false ↦ scan_end (refuse 13 p) ]).end
    taken true n t r = r
    taken false n t r = omega arith

    by :
        (l : Lexeme) → LexemeBelow20 l → ((k n : ℕ) → Below20 (scan_from (p + 1) k n bs).end)
        → Below20 (elim l as (λ x. Scan) [
          | no_lexeme n ↦ scan_from (p + 1) k n bs
          | token n t ↦ elim (ltb 0 k) [ true ↦ followed t (scan_from (p + 1) (k - 1) n bs) | false ↦ scan_end (refuse 13 p) ]
          | bad_lexeme m ↦ scan_end (refuse m p)
        ]).end
    by (no_lexeme n) q r = r k n
    by (token n t) q r = taken (ltb 0 k) n t (r (k - 1) n)
    by (bad_lexeme m) q r = q

pub scanned_below : (text : List ℕ) → Below20 (scan text).end
unfolding scan
scanned_below text = scan_below text 0 _ 0
