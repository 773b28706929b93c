-- The number of an operator's kind gives back the operator.
-- Assumes nothing.
use Rattle.std.specs.Prelude.{◌≡◌, refl}
use Rattle.rules.specs.Text.Tokens.{Op, join, plus, minus, eql, neq, lss, leq, gtr, geq, and, eqv, or, xor, kind_no, op_kind}
use Rattle.values.specs.Operators.{op_at}

pub op_at_kind : (o : Op) → op_at (kind_no (op_kind o)) ≡ o
unfolding op_at
op_at_kind join = refl
op_at_kind plus = refl
op_at_kind minus = refl
op_at_kind eql = refl
op_at_kind neq = refl
op_at_kind lss = refl
op_at_kind leq = refl
op_at_kind gtr = refl
op_at_kind geq = refl
op_at_kind and = refl
op_at_kind eqv = refl
op_at_kind or = refl
op_at_kind xor = refl
