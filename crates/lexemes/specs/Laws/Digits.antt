-- Laws of digits: by its value in a base a byte is a digit of it, a `?`, or neither.
use Rattle.std.specs.Prelude.{◌≡◌, refl, Bool, true, false, ◌&&◌, ◌||◌, not, ℕ, ◌<◌, ◌≤◌, T, eqb, ltb, leb, replicate}
use Rattle.std.proofs.Common.{sym, ◌∙◌, arith, lt-ltb, le-ltb, ltb-true, ltb-false, ne_eqb, eqb→eq}
use Rattle.std.proofs.Math.Bool.{and-false}
use Rattle.rules.specs.Text.Bytes.{fold}
use Rattle.rules.specs.Text.Constants.{digit_bits, digit_value, is_query, is_digit_of}
use Rattle.classes.specs.Laws.Tests.{at}
use Rattle.classes.specs.Laws.Runs.{agree, agreed}
use Rattle.lexemes.specs.Digits.{digit_no}

-- the bits of a digit behind each prefix
pub binary : (b : ℕ) → b ≡ 39 → digit_bits b ≡ 1
unfolding digit_bits
binary b e = rw e

pub octal : (b : ℕ) → b ≡ 35 → digit_bits b ≡ 3
unfolding digit_bits
octal b e = rw e

pub hexadecimal : (b : ℕ) → (b ≡ 39 → ⊥) → (b ≡ 35 → ⊥) → digit_bits b ≡ 4
unfolding digit_bits
hexadecimal b p q = rw (ne_eqb b 39 p, ne_eqb b 35 q, digit_bits)

-- what the rules say of a byte, by a test at each byte
query_test : ℕ → ℕ → Bool
query_test b _ = agree (is_query b) (eqb (digit_no b) 16)

digit_test : ℕ → ℕ → Bool
digit_test b _ = agree (is_digit_of 16 b) (ltb (digit_no b) 16)

value_test : ℕ → ℕ → Bool
value_test b _ = not (ltb (digit_no b) 16) || eqb (digit_value b) (digit_no b)

pub is_query_lem : (b : ℕ) → b < 256 → is_query b ≡ eqb (digit_no b) 16
unfolding digit_no fold query_test
is_query_lem b h = agreed _ _ (at query_test (replicate 256 0) tt b h)

is_digit : (b : ℕ) → b < 256 → is_digit_of 16 b ≡ ltb (digit_no b) 16
unfolding digit_no fold digit_test is_digit_of digit_value
is_digit b h = agreed _ _ (at digit_test (replicate 256 0) tt b h)

pub is_value : (b : ℕ) → b < 256 → digit_no b < 16 → digit_value b ≡ digit_no b
unfolding digit_no fold value_test digit_value
is_value b h l = go (ltb (digit_no b) 16) (lt-ltb _ _ l) (at value_test (replicate 256 0) tt b h)
  where
    go : (r : Bool) → r ≡ true → T (not r || eqb (digit_value b) (digit_no b)) → digit_value b ≡ digit_no b
    go true e t = eqb→eq _ _ t
    go false e t = absurd (let z : ◌≡◌ {A = ℕ} 0 1 = cc in omega arith)

-- a digit of a smaller base
narrower : (a : Bool) (v m n : ℕ) → m ≤ n → a && ltb v m ≡ (a && ltb v n) && ltb v m
narrower false v m n h = refl
narrower true v m n h = go (ltb v m) refl
  where
    go : (r : Bool) → ltb v m ≡ r → r ≡ ltb v n && r
    go true e = rw (lt-ltb v n (omega (arith, ltb-true v m e)))
    go false e = sym (and-false (ltb v n))

small_digit : (base b : ℕ) → base ≤ 16 → is_digit_of base b ≡ is_digit_of 16 b && ltb (digit_value b) base
unfolding is_digit_of
small_digit base b l = narrower (leb 48 b && leb b 57 || (leb 65 (fold b) && leb (fold b) 70)) (digit_value b) base 16 l

pub is_digit_of_lem : (base b : ℕ) → b < 256 → base ≤ 16 → is_digit_of base b ≡ ltb (digit_no b) base
is_digit_of_lem base b h l = go (ltb (digit_no b) 16) refl
  where
    wide : is_digit_of base b ≡ is_digit_of 16 b && ltb (digit_value b) base
    wide = small_digit base b l

    go : (r : Bool) → ltb (digit_no b) 16 ≡ r → is_digit_of base b ≡ ltb (digit_no b) base
    go true e = wide ∙ rw (is_digit b h, e, is_value b h (ltb-true _ _ e))
    go false e = let past : base ≤ digit_no b = omega (arith, ltb-false (digit_no b) 16 e) in wide ∙ rw (is_digit b h, e) (sym (le-ltb _ _ past))
