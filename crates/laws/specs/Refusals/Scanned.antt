-- A scan is refused with a number of the 10s or above.
use Rattle.std.specs.Prelude.{ℕ, zero, suc, ◌+◌, ◌-◌, ◌≤◌, Bool, true, false, List, [], ◌∷◌, map, leb, ltb, length}
use Rattle.std.proofs.Math.Option.{Option, none, some}
use Rattle.std.proofs.Common.{arith}
use Rattle.rules.specs.Limits.{longest_name}
use Rattle.rules.specs.Text.Bytes.{Class, class_of, leading, fold, in_name, in_constant}
use Rattle.rules.specs.Text.Bytes.{forbidden, blank, exclamation, letter, digit, dot, prefix, query, mark, other}
use Rattle.rules.specs.Text.Tokens.{Kind, Const, Token, tk, Spelling, keywords, marks}
use Rattle.rules.specs.Text.Constants.{Constant, malformed, constant, is_query, any, digit_bits, decimal, based}
use Rattle.rules.specs.Text.Scan.{Lexeme, no_lexeme, token, bad_lexeme, word_kind, mark_at, word_info, word_lexeme, constant_lexeme, masked_kind, mark_lexeme, lexeme_by, lexeme}
use Rattle.rules.specs.Text.Scan.{End, fine, refuse, Scan, scan_end, followed, scan_from, scan}

abbrev pub From10 : End → Type 0
From10 fine = Unit {0}
From10 (refuse m p) = 10 ≤ m

abbrev LexemeFrom10 : Lexeme → Type 0
LexemeFrom10 (no_lexeme n) = Unit {0}
LexemeFrom10 (token n t) = Unit {0}
LexemeFrom10 (bad_lexeme m) = 10 ≤ m

word_from : (p : ℕ) (bs : List ℕ) → LexemeFrom10 (word_lexeme p bs)
unfolding word_lexeme
word_from p bs = by (leb (length bs) longest_name)
  where
    by :
        (b : Bool)
        → LexemeFrom10 (elim b [ true ↦ token (length bs - 1) (tk (word_kind keywords (map fold bs)) (word_info p (map fold bs))) | false ↦ bad_lexeme 11 ])
    by true = tt
    by false = omega arith

mark_from : (p : ℕ) (o : Option Spelling) → LexemeFrom10 (mark_lexeme p o)
unfolding mark_lexeme
mark_from p none = omega arith
mark_from p (some s) = tt

constant_from : (p n : ℕ) (k : Kind) (c : Constant) → LexemeFrom10 (constant_lexeme p n k c)
unfolding constant_lexeme
constant_from p n k malformed = omega arith
constant_from p n k (constant v f b) = tt

lexeme_from : (c : Class) (p b : ℕ) (bs : List ℕ) → LexemeFrom10 (lexeme_by c p b bs)
unfolding lexeme_by
lexeme_from forbidden p b bs = omega arith
lexeme_from blank p b bs = tt
lexeme_from exclamation p b bs = tt
lexeme_from letter p b bs = word_from p (leading in_name (b ∷ bs))
lexeme_from digit p b bs = constant_from p (length (leading in_constant bs)) Const (decimal (leading in_constant (b ∷ bs)))
lexeme_from dot p b bs = omega arith
lexeme_from prefix p b bs = let ds = leading in_constant bs in constant_from p (length ds) (masked_kind (any is_query ds)) (based (digit_bits b) ds)
lexeme_from query p b bs = omega arith
lexeme_from mark p b bs = mark_from p (mark_at marks (b ∷ bs))
lexeme_from other p b bs = omega arith

scan_from_lem : (bs : List ℕ) (p k n : ℕ) → From10 (scan_from p k n bs).end
unfolding scan_from lexeme
scan_from_lem [] p k n = tt
scan_from_lem (b ∷ bs) p k (suc n) = scan_from_lem bs (p + 1) k n
scan_from_lem (b ∷ bs) p k zero = by (lexeme p b bs) (lexeme_from (class_of b) p b bs) (scan_from_lem bs (p + 1))
  where
    taken :
        (c : Bool) (n : ℕ) (t : Token) → From10 (scan_from (p + 1) (k - 1) n bs).end
        → From10 (elim c as (λ x. Scan) [ true ↦ followed t (scan_from (p + 1) (k - 1) n bs) | false ↦ scan_end (refuse 13 p) ]).end
    taken true n t r = r
    taken false n t r = omega arith

    by :
        (l : Lexeme) → LexemeFrom10 l → ((k n : ℕ) → From10 (scan_from (p + 1) k n bs).end)
        → From10 (elim l as (λ x. Scan) [
          | no_lexeme n ↦ scan_from (p + 1) k n bs
          | token n t ↦ elim (ltb 0 k) [ true ↦ followed t (scan_from (p + 1) (k - 1) n bs) | false ↦ scan_end (refuse 13 p) ]
          | bad_lexeme m ↦ scan_end (refuse m p)
        ]).end
    by (no_lexeme n) q r = r k n
    by (token n t) q r = taken (ltb 0 k) n t (r (k - 1) n)
    by (bad_lexeme m) q r = q

pub scanned_from : (text : List ℕ) → From10 (scan text).end
unfolding scan
scanned_from text = scan_from_lem text 0 _ 0
