-- The laws of the operators' results: each fits its length, no length is 0, and those of the bit operators are the machine's.
-- Assumes nothing.
use Rattle.std.specs.Prelude.{◌≡◌, ℕ, ◌+◌, ◌^◌, ◌<◌, max, Bool, true, false, not, ◌==◌, bit_and, bit_or, bit_xor, nat_le, nat_lt}
use Rattle.std.proofs.Common.{lt_of_lt_of_le, mod-lt, add-one, arith, pow_pos, pow_mono, pow-add}
use Rattle.std.proofs.Math.Nat.{le-max_left, le-max_right}
use Rattle.std.proofs.Math.Arith.{digits_lt}
use Rattle.std.proofs.Math.Pow.{add-lt-pow, ones_sub-lt}
use Rattle.rules.specs.Text.Tokens.{Op, join, plus, minus, eql, neq, lss, leq, gtr, geq, and, eqv, or, xor}
use Rattle.rules.specs.Values.{op_bits, op_number, not_number, truth}
use Rattle.values.specs.Operands.{Fit}
use Rattle.values.specs.Laws.Bits.{bitwise_fits, and_each_bit, or_each_bit, xor_each_bit, eqv_not_xor}

pub not_fits : (n a : ℕ) → not_number n a < 2 ^ n
unfolding not_number
not_fits n a = ones_sub-lt n a

-- both operands fit the longer length
module _ {m a n b : ℕ} (fit : Fit m a n b) where
  pub left_longer : a < 2 ^ max m n
  left_longer = lt_of_lt_of_le fit.left (pow_mono (le-max_left m n))

  pub right_longer : b < 2 ^ max m n
  right_longer = lt_of_lt_of_le fit.right (pow_mono (le-max_right m n))

truth_fits : (t : Bool) → truth t < 2
truth_fits true = omega arith
truth_fits false = omega arith

pub result_fits : (o : Op) {m a n b : ℕ} → Fit m a n b → op_number o m a n b < 2 ^ op_bits o m n
unfolding op_number op_bits
result_fits join {m} {a} {n} {b} fit = rw pow-add (digits_lt fit.left fit.right)
result_fits plus {m} {a} {n} {b} fit = rw add-one (add-lt-pow (max m n) (left_longer fit) (right_longer fit))
result_fits minus {m} {a} {n} {b} fit = mod-lt _ (pow_pos (max m n + 1))
result_fits eql {m} {a} {n} {b} fit = truth_fits (a == b)
result_fits neq {m} {a} {n} {b} fit = truth_fits (not (a == b))
result_fits lss {m} {a} {n} {b} fit = truth_fits (nat_lt a b)
result_fits leq {m} {a} {n} {b} fit = truth_fits (nat_le a b)
result_fits gtr {m} {a} {n} {b} fit = truth_fits (nat_lt b a)
result_fits geq {m} {a} {n} {b} fit = truth_fits (nat_le b a)
result_fits and fit = bitwise_fits _ (λ x y hx hy. omega arith) _ _ _
result_fits eqv fit = bitwise_fits _ (λ x y hx hy. omega arith) _ _ _
result_fits or fit = bitwise_fits _ (λ x y hx hy. omega arith) _ _ _
result_fits xor fit = bitwise_fits _ (λ x y hx hy. omega arith) _ _ _

-- a result is never empty, so it may be an operand
pub result_some : (o : Op) {m : ℕ} (n : ℕ) → 0 < m → 0 < op_bits o m n
unfolding op_bits
result_some join n h = omega arith
result_some plus n h = omega arith
result_some minus n h = omega arith
result_some eql n h = omega arith
result_some neq n h = omega arith
result_some lss n h = omega arith
result_some leq n h = omega arith
result_some gtr n h = omega arith
result_some geq n h = omega arith
result_some and n h = omega arith
result_some eqv n h = omega arith
result_some or n h = omega arith
result_some xor n h = omega arith

module _ {m a n b : ℕ} (fit : Fit m a n b) where
  pub and_machine : op_number and m a n b ≡ bit_and a b
  unfolding op_number
  and_machine = and_each_bit (max m n) a b (left_longer fit) (right_longer fit)

  pub or_machine : op_number or m a n b ≡ bit_or a b
  unfolding op_number
  or_machine = or_each_bit (max m n) a b (left_longer fit) (right_longer fit)

  pub xor_machine : op_number xor m a n b ≡ bit_xor a b
  unfolding op_number
  xor_machine = xor_each_bit (max m n) a b (left_longer fit) (right_longer fit)

-- EQV is NOT of XOR
pub eqv_not : (m a n b : ℕ) → op_number eqv m a n b ≡ not_number (max m n) (op_number xor m a n b)
unfolding op_number
eqv_not m a n b = eqv_not_xor (max m n) a b
