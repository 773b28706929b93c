-- Laws of constants: the kind that the code gives by the free bits is the one that the rules give by the `?`.
use Rattle.std.specs.Prelude.{◌≡◌, Bool, ◌&&◌, ℕ, zero, suc, ◌+◌, ◌-◌, ◌*◌, ◌^◌, ◌<◌, ◌≤◌, eqb, ltb, leb, length}
use Rattle.std.proofs.Math.Path.{refl}
use Rattle.std.proofs.Math.Bool.{true, false}
use mathlib.Core.List.{List, [], ◌∷◌}
use Rattle.std.proofs.Common.{arith, zero-add, pow_mono}
use Rattle.std.proofs.Math.Nat.{zero-mul, mul-le-mul_left}
use Rattle.rules.specs.Text.Tokens.{Kind, Const, kind_no}
use Rattle.rules.specs.Text.Constants.{Constant, malformed, constant, decimal, based, all, any, is_query, is_digit_of, is_based_digit, value_from, free_from, free_digit, decimal_bits, digit_bits}
use Rattle.rules.specs.Text.Scan.{constant_lexeme, masked_kind}
use Rattle.lexemes.specs.Lexemes.{lexeme_of}
use Rattle.lexemes.specs.Numbers.{number_of, free_kind, constant_of}

-- a constant is of a kind by its free bits
abbrev Kinded : Kind → Constant → Type 0
Kinded k malformed = Unit
Kinded k (constant v f n) = kind_no k ≡ free_kind f

kinded : (k : Kind) (r : Bool) (v f n : ℕ) → kind_no k ≡ free_kind f → Kinded k (elim r [ true ↦ constant v f n | false ↦ malformed ])
kinded k true v f n e = e
kinded k false v f n e = tt

law : (p n : ℕ) (k : Kind) (x : Constant) → Kinded k x → lexeme_of (constant_lexeme p n k x) ≡ constant_of n (number_of x)
unfolding constant_lexeme
law p n k malformed e = refl
law p n k (constant v f b) e = rw (zero-add, e)

pub decimal_law : (p n : ℕ) (ds : List ℕ) → lexeme_of (constant_lexeme p n Const (decimal ds)) ≡ constant_of n (number_of (decimal ds))
unfolding decimal
decimal_law p n ds =
    law p n Const (decimal ds)
    (kinded Const (all (is_digit_of 10) ds && ltb (value_from 10 0 ds) (2 ^ 64)) (value_from 10 0 ds) 0 (decimal_bits (value_from 10 0 ds)) refl)

-- the free bits of digits: some where a `?` is
module _ (base : ℕ) (two : 2 ≤ base) where
  stays : (f : ℕ) (ds : List ℕ) → 0 < f → 0 < free_from base f ds
  unfolding free_from
  stays f [] h = h
  stays f (b ∷ bs) h = stays (f * base + free_digit base b) bs (omega (arith, mul-le-mul_left f two))

  some : (f : ℕ) → 0 < f → 2 ≡ free_kind f
  some zero h = absurd (omega arith)
  some (suc f) h = refl

  free_kind_lem : (ds : List ℕ) → kind_no (masked_kind (any is_query ds)) ≡ free_kind (free_from base 0 ds)
  unfolding any free_from free_digit
  free_kind_lem [] = refl
  free_kind_lem (b ∷ bs) = go (is_query b) refl (free_kind_lem bs)
    where
      go : (r : Bool) → is_query b ≡ r → kind_no (masked_kind (any is_query bs)) ≡ free_kind (free_from base 0 bs)
          → kind_no (masked_kind (any is_query (b ∷ bs))) ≡ free_kind (free_from base 0 (b ∷ bs))
      go true e rest = rw (any, e, free_from, free_digit) (some _ (stays (0 * base + (base - 1)) bs (omega arith)))
      go false e rest = rw (any, e, free_from, free_digit, zero-mul, zero-add) rest

pub bits_some : (b : ℕ) → 1 ≤ digit_bits b
unfolding digit_bits
bits_some b = go (eqb b 39) (eqb b 35)
  where
    go : (r s : Bool) → 1 ≤ elim r [ true ↦ 1 | false ↦ elim s [ true ↦ 3 | false ↦ 4 ] ]
    go true s = omega arith
    go false true = omega arith
    go false false = omega arith

pub based_law : (p n b : ℕ) (ds : List ℕ)
    → lexeme_of (constant_lexeme p n (masked_kind (any is_query ds)) (based (digit_bits b) ds)) ≡ constant_of n (number_of (based (digit_bits b) ds))
unfolding based
based_law p n b ds =
    let k : ℕ = digit_bits b in
    law p n (masked_kind (any is_query ds)) (based k ds)
    (kinded (masked_kind (any is_query ds)) (all (is_based_digit (2 ^ k)) ds && (ltb 0 (length ds) && leb (k * length ds) 64))
    (value_from (2 ^ k) 0 ds) (free_from (2 ^ k) 0 ds) (k * length ds)
    (free_kind_lem (2 ^ k) (pow_mono {i = 1} {j = k} (bits_some b)) ds))
