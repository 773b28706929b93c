-- Values. "The leftmost bit is the most significant. Unsigned throughout; the shorter operand is extended with zeros." A value is a number and its
-- length in bits; every operator is here once, for any length.
use Rattle.std.specs.Prelude.{ℕ, zero, suc, ◌+◌, ◌-◌, ◌*◌, ◌/◌, ◌%◌, ◌^◌, min, max, Bool, true, false, not, List, [], ◌∷◌, leb, ltb, eqb}
use Rattle.rules.specs.Text.Tokens.{Op, join, plus, minus, eql, neq, lss, leq, gtr, geq, and, eqv, or, xor}

pub record Value : Type 0 where
  pub bits : ℕ
  pub number : ℕ

abbrev pub value : ℕ → ℕ → Value
value n x = record { bits = n; number = x }

-- "`+` and `-` are one bit longer than the longer operand. Relations give one bit. AND, EQV, OR and XOR take the longer length; `@` adds lengths."
unfoldable pub op_bits : Op → ℕ → ℕ → ℕ
op_bits join m n = m + n
op_bits plus m n = max m n + 1
op_bits minus m n = max m n + 1
op_bits eql m n = 1
op_bits neq m n = 1
op_bits lss m n = 1
op_bits leq m n = 1
op_bits gtr m n = 1
op_bits geq m n = 1
op_bits and m n = max m n
op_bits eqv m n = max m n
op_bits or m n = max m n
op_bits xor m n = max m n

-- one bit: 1 if it holds
abbrev pub truth : Bool → ℕ
truth true = 1
truth false = 0

-- the operation f on each pair of bits of the n lowest
unfoldable pub bitwise : (ℕ → ℕ → ℕ) → ℕ → ℕ → ℕ → ℕ
bitwise f zero a b = 0
bitwise f (suc n) a b = f (a % 2) (b % 2) + 2 * bitwise f n (a / 2) (b / 2)

abbrev pub and_bit : ℕ → ℕ → ℕ
and_bit a b = min a b

abbrev pub or_bit : ℕ → ℕ → ℕ
or_bit a b = max a b

abbrev pub xor_bit : ℕ → ℕ → ℕ
xor_bit a b = (a + b) % 2

abbrev pub eqv_bit : ℕ → ℕ → ℕ
eqv_bit a b = (a + b + 1) % 2

-- the number of an operation on a, m bits long, and b, n bits long; "`-` reduced to that length"
unfoldable pub op_number : Op → ℕ → ℕ → ℕ → ℕ → ℕ
op_number join m a n b = a * 2 ^ n + b
op_number plus m a n b = a + b
op_number minus m a n b = (2 ^ (max m n + 1) + a - b) % 2 ^ (max m n + 1)
op_number eql m a n b = truth (eqb a b)
op_number neq m a n b = truth (not (eqb a b))
op_number lss m a n b = truth (ltb a b)
op_number leq m a n b = truth (leb a b)
op_number gtr m a n b = truth (ltb b a)
op_number geq m a n b = truth (leb b a)
op_number and m a n b = bitwise and_bit (max m n) a b
op_number eqv m a n b = bitwise eqv_bit (max m n) a b
op_number or m a n b = bitwise or_bit (max m n) a b
op_number xor m a n b = bitwise xor_bit (max m n) a b

unfoldable pub operate : Op → Value → Value → Value
operate o x y = value (op_bits o x.bits y.bits) (op_number o x.bits x.number y.bits y.number)

-- NOT keeps the length
unfoldable pub not_number : ℕ → ℕ → ℕ
not_number n a = 2 ^ n - 1 - a

unfoldable pub inverse : Value → Value
inverse x = value x.bits (not_number x.bits x.number)

-- the bits of a word from `low` up, `size` of them; and the word with these bits replaced by the lowest of v
unfoldable pub field : ℕ → ℕ → ℕ → ℕ
field low size w = w / 2 ^ low % 2 ^ size

unfoldable pub with_field : ℕ → ℕ → ℕ → ℕ → ℕ
with_field low size w v = w / 2 ^ (low + size) * 2 ^ (low + size) + (v % 2 ^ size) * 2 ^ low + w % 2 ^ low

-- "A transfer drops leftmost bits or adds zeros; a joined destination is cut up left to right": the part of v for each of the lengths
unfoldable pub total : List ℕ → ℕ
total [] = 0
total (n ∷ ns) = n + total ns

unfoldable pub cut : List ℕ → ℕ → List ℕ
cut [] v = []
cut (n ∷ ns) v = field (total ns) n v ∷ cut ns v
