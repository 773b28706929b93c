-- Constants. "Decimal; binary after `'`; octal after `#`; hexadecimal after `"`; lengths 1, 3 and 4 bits a digit. A decimal takes the fewest bits
-- that hold it; 0 takes one. `?` may stand for a digit, except in decimals."
use Rattle.std.specs.Prelude.{ℕ, zero, suc, ◌+◌, ◌-◌, ◌*◌, ◌^◌, Bool, true, false, ◌&&◌, ◌||◌, List, [], ◌∷◌, leb, ltb, eqb, length}
use Rattle.rules.specs.Limits.{most_bits}
use Rattle.rules.specs.Text.Bytes.{fold}

-- the bits of a digit, by the prefix: binary, octal, hexadecimal
unfoldable pub digit_bits : ℕ → ℕ
digit_bits b = elim (eqb b 39) [ true ↦ 1 | false ↦ elim (eqb b 35) [ true ↦ 3 | false ↦ 4 ] ]

-- the value of a digit byte, as a digit of any base: `?` counts as 0 here
unfoldable pub digit_value : ℕ → ℕ
digit_value b = elim (leb 48 b && leb b 57) [ true ↦ b - 48 | false ↦ elim (leb 65 (fold b) && leb (fold b) 70) [ true ↦ fold b - 55 | false ↦ 0 ] ]

-- whether a byte is a decimal digit, a letter A to F, a `?`
abbrev is_decimal : ℕ → Bool
is_decimal b = leb 48 b && leb b 57

abbrev is_hex_letter : ℕ → Bool
is_hex_letter b = leb 65 (fold b) && leb (fold b) 70

abbrev pub is_query : ℕ → Bool
is_query b = eqb b 63

-- a digit of a base below or at 16; in a based constant `?` is one too
unfoldable pub is_digit_of : ℕ → ℕ → Bool
is_digit_of base b = (is_decimal b || is_hex_letter b) && ltb (digit_value b) base

unfoldable pub is_based_digit : ℕ → ℕ → Bool
is_based_digit base b = is_query b || is_digit_of base b

unfoldable pub all : (ℕ → Bool) → List ℕ → Bool
all p [] = true
all p (b ∷ bs) = p b && all p bs

unfoldable pub any : (ℕ → Bool) → List ℕ → Bool
any p [] = false
any p (b ∷ bs) = p b || any p bs

-- the value of digits behind those of value v, the leftmost first, with 0 for each `?`
unfoldable pub value_from : ℕ → ℕ → List ℕ → ℕ
value_from base v [] = v
value_from base v (b ∷ bs) = value_from base (v * base + digit_value b) bs

-- the bits that the `?` leave free: all of such a digit's
unfoldable pub free_digit : ℕ → ℕ → ℕ
free_digit base b = elim (is_query b) [ true ↦ base - 1 | false ↦ 0 ]

unfoldable pub free_from : ℕ → ℕ → List ℕ → ℕ
free_from base v [] = v
free_from base v (b ∷ bs) = free_from base (v * base + free_digit base b) bs

-- the least of k, k + 1, .. that are bits enough, in at most n tries
unfoldable pub bits_from : ℕ → ℕ → ℕ → ℕ
bits_from zero k v = k
bits_from (suc n) k v = elim (ltb v (2 ^ k)) [ true ↦ k | false ↦ bits_from n (k + 1) v ]

-- the fewest bits that hold a decimal
unfoldable pub decimal_bits : ℕ → ℕ
decimal_bits v = bits_from 63 1 v

-- what the bytes of a constant come to: its value, its free bits and its length, or that it is malformed or too long
pub data Constant : Type 0 where
  malformed : Constant
  constant : ℕ → ℕ → ℕ → Constant

-- the digits of a decimal
unfoldable pub decimal : List ℕ → Constant
decimal ds =
    elim (all (is_digit_of 10) ds && ltb (value_from 10 0 ds) (2 ^ most_bits))
    [ true ↦ constant (value_from 10 0 ds) 0 (decimal_bits (value_from 10 0 ds)) | false ↦ malformed ]

-- the digits behind a prefix, of n bits each
unfoldable pub based : ℕ → List ℕ → Constant
based n ds =
    elim (all (is_based_digit (2 ^ n)) ds && (ltb 0 (length ds) && leb (n * length ds) most_bits))
    [ true ↦ constant (value_from (2 ^ n) 0 ds) (free_from (2 ^ n) 0 ds) (n * length ds) | false ↦ malformed ]
