-- The laws of the operations on each pair of bits: they are the machine's on numbers that fit the length, and fit it again.
-- Assumes nothing.
use Rattle.std.specs.Prelude.{◌≡◌, ℕ, zero, suc, ◌+◌, ◌*◌, ◌/◌, ◌%◌, ◌^◌, ◌<◌, bit_and, bit_or, bit_xor, refl}
use Rattle.std.proofs.Common.{sym, ◌∙◌}
use Rattle.std.proofs.Math.Nat.{pow-succ'}
use native.Mathlib.Omega.{arith}
use Rattle.std.specs.Int.Bits.{and_step, or_step, xor_step}
use Rattle.std.specs.Int.Bits as machine
use Rattle.rules.specs.Values.{bitwise, and_bit, or_bit, xor_bit, eqv_bit, not_number}

-- bits give a bit
abbrev pub OnBits : (ℕ → ℕ → ℕ) → Type 0
OnBits f = (x y : ℕ) → x < 2 → y < 2 → f x y < 2

pub bitwise_fits : (f : ℕ → ℕ → ℕ) → OnBits f → (n a b : ℕ) → bitwise f n a b < 2 ^ n
unfolding bitwise
bitwise_fits f h zero a b = omega arith
bitwise_fits f h (suc n) a b =
    omega (arith, pow-succ' 2 n, bitwise_fits f h n (a / 2) (b / 2), h (a % 2) (b % 2) (omega arith) (omega arith))

-- an operation that works on the lowest bits and on the rest apart is the one on each pair of bits
module _ (f op : ℕ → ℕ → ℕ) (none : op 0 0 ≡ 0) (step : (a b : ℕ) → op a b ≡ op (a / 2) (b / 2) * 2 + f (a % 2) (b % 2)) where
  each_bit : (n a b : ℕ) → a < 2 ^ n → b < 2 ^ n → bitwise f n a b ≡ op a b
  unfolding bitwise
  each_bit zero a b ha hb =
      let za : a ≡ 0 = omega arith in
      let zb : b ≡ 0 = omega arith in
      rw (za, zb) (sym none)
  each_bit (suc n) a b ha hb =
      omega (arith, step a b, each_bit n (a / 2) (b / 2) (omega (arith, pow-succ' 2 n)) (omega (arith, pow-succ' 2 n)))

pub and_each_bit : (n a b : ℕ) → a < 2 ^ n → b < 2 ^ n → bitwise and_bit n a b ≡ bit_and a b
and_each_bit = each_bit and_bit bit_and refl and_step

pub or_each_bit : (n a b : ℕ) → a < 2 ^ n → b < 2 ^ n → bitwise or_bit n a b ≡ bit_or a b
or_each_bit = each_bit or_bit bit_or refl or_step

-- two bits differ if their sum is odd
differ_odd : (x y : ℕ) → x < 2 → y < 2 → machine.differ x y ≡ xor_bit x y
differ_odd zero zero hx hy = refl
differ_odd zero (suc zero) hx hy = refl
differ_odd zero (suc (suc y)) hx hy = absurd (omega arith)
differ_odd (suc zero) zero hx hy = refl
differ_odd (suc zero) (suc zero) hx hy = refl
differ_odd (suc zero) (suc (suc y)) hx hy = absurd (omega arith)
differ_odd (suc (suc x)) y hx hy = absurd (omega arith)

pub xor_each_bit : (n a b : ℕ) → a < 2 ^ n → b < 2 ^ n → bitwise xor_bit n a b ≡ bit_xor a b
xor_each_bit =
    each_bit xor_bit bit_xor refl (λ a b. xor_step a b ∙ rw (differ_odd (a % 2) (b % 2) (omega arith) (omega arith)))

-- each pair of bits is alike or differs
eqv_and_xor : (n a b : ℕ) → bitwise eqv_bit n a b + bitwise xor_bit n a b + 1 ≡ 2 ^ n
unfolding bitwise
eqv_and_xor zero a b = refl
eqv_and_xor (suc n) a b = omega (arith, pow-succ' 2 n, eqv_and_xor n (a / 2) (b / 2))

pub eqv_not_xor : (n a b : ℕ) → bitwise eqv_bit n a b ≡ not_number n (bitwise xor_bit n a b)
unfolding not_number
eqv_not_xor n a b = omega (arith, eqv_and_xor n a b)
