-- `values::operate` meets its contract: each arm knows its operator, and the operator's function says the rest.
-- Assumes nothing.
use Rattle.std.proofs.Common.{◌≡◌, ℕ, ◌+◌, ◌*◌, ◌^◌, ◌<◌, ◌≤◌, max, [], ◌++◌, ap, lt_of_lt_of_le, arith, pow_mono}
use Rattle.rules.specs.Text.Tokens.{Op, join, plus, minus, eql, neq, lss, leq, gtr, geq, and, eqv, or, xor}
use Rattle.rules.specs.Values.{op_bits, op_number}
use Rattle.values.specs.Operands.{Operands}
use Rattle.values.specs.Operators.{op_at, plain, relations}
use Rattle.values.specs.Laws.Results.{result_fits, left_longer, right_longer}
use Rattle.values.proofs.Arms.{arm, None, passed}
use Rattle.values.proofs.operate.Goals as goal

-- the result fits 64 bits
within : (o : Op) {m a n b : ℕ} → Operands o m a n b → op_number o m a n b < 2 ^ 64
within o h = lt_of_lt_of_le (result_fits o h.fit) (pow_mono h.short)

joins : {m a n b : ℕ} → Operands join m a n b → (n < 64) × (a * 2 ^ n + b < 2 ^ 64)
unfolding op_bits op_number
joins h = (omega (arith, h.short, h.some), within join h)

adds : {m a n b : ℕ} → Operands plus m a n b → a + b < 2 ^ 64
unfolding op_number
adds h = within plus h

subtracts : {m a n b l : ℕ} → Operands minus m a n b → l ≡ max m n → l + 1 ≤ 64
unfolding op_bits
subtracts h is_longer = omega (arith, h.short)

compares : {m a n b l : ℕ} → Operands eqv m a n b → l ≡ max m n → (l ≤ 64) × (a < 2 ^ l) × (b < 2 ^ l)
unfolding op_bits
compares h is_longer = rw is_longer (h.short, left_longer h.fit, right_longer h.fit)

last : (k : ℕ) → None k Unit (plain ++ relations) → op_at k ≡ geq
unfolding op_at
last k h = passed k Unit (plain ++ relations) [] h

pub join-requires : goal.join-requires
unfolding op_bits op_number
join-requires c = joins (rw (arm join c.in-15.is) at c.requires)

pub add-requires : goal.add-requires
unfolding op_bits op_number
add-requires c = adds (rw (arm plus c.in-16.is) at c.requires)

pub overflow_add-max : goal.overflow_add-max
unfolding op_bits op_number
overflow_add-max c = omega (arith, subtracts (rw (arm minus c.in-17.is) at c.requires) c.max.ensures)

pub subtract-requires : goal.subtract-requires
unfolding op_bits op_number
subtract-requires c = subtracts (rw (arm minus c.in-17.is) at c.requires) c.max.ensures

pub alike-requires : goal.alike-requires
unfolding op_bits op_number
alike-requires c = compares (rw (arm eqv c.in-33.is) at c.requires) c.max-in-33.ensures

pub returns-in-15 : goal.returns-in-15
unfolding op_bits op_number
returns-in-15 c = rw (arm join c.in-15.is) (c.join.ensures c.args.m)

pub returns-in-16 : goal.returns-in-16
unfolding op_bits op_number
returns-in-16 c = rw (arm plus c.in-16.is) (c.add.ensures c.args.m c.args.n)

pub returns-in-17 : goal.returns-in-17
unfolding op_bits op_number
returns-in-17 c =
    rw (arm minus c.in-17.is)
    (c.subtract.ensures _ _ c.requires.fit (ap (λ (x : ℕ). x + 1) c.max.ensures))

pub returns-in-32 : goal.returns-in-32
unfolding op_bits op_number
returns-in-32 c = rw (arm and c.in-32.is) (c.both.ensures _ _ c.requires.fit)

pub returns-in-33 : goal.returns-in-33
unfolding op_bits op_number
returns-in-33 c =
    rw (arm eqv c.in-33.is)
    (c.alike.ensures _ _ c.requires.fit c.max-in-33.ensures)

pub returns-in-34 : goal.returns-in-34
unfolding op_bits op_number
returns-in-34 c = rw (arm or c.in-34.is) (c.either.ensures _ _ c.requires.fit)

pub returns-in-35 : goal.returns-in-35
unfolding op_bits op_number
returns-in-35 c = rw (arm xor c.in-35.is) (c.differ.ensures _ _ c.requires.fit)

pub returns-in-36 : goal.returns-in-36
unfolding op_bits op_number
returns-in-36 c = rw (arm eql c.in-36.is) c.truth.ensures

pub returns-in-37 : goal.returns-in-37
unfolding op_bits op_number
returns-in-37 c = rw (arm neq c.in-37.is) c.truth-in-37.ensures

pub returns-in-38 : goal.returns-in-38
unfolding op_bits op_number
returns-in-38 c = rw (arm lss c.in-38.is) c.truth-in-38.ensures

pub returns-in-39 : goal.returns-in-39
unfolding op_bits op_number
returns-in-39 c = rw (arm leq c.in-39.is) c.truth-in-39.ensures

pub returns-in-40 : goal.returns-in-40
unfolding op_bits op_number
returns-in-40 c = rw (arm gtr c.in-40.is) c.truth-in-40.ensures

pub returns-in_default : goal.returns-in_default
unfolding op_bits op_number
returns-in_default c = rw (last _ c.in_default.in_default-own.rest) c.truth-in_default.ensures
