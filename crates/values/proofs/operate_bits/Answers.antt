-- `values::operate_bits` meets its contract: each arm knows its operator, and the last one that it is a relation.
-- Assumes nothing.
use Rattle.std.proofs.Common.{◌≡◌, ℕ, Bool, true, false, eqb, List, [], ◌∷◌, sym, refl}
use Rattle.rules.specs.Text.Tokens.{Op, join, plus, minus, and, eqv, or, xor, kind_no, op_kind}
use Rattle.rules.specs.Values.{op_bits}
use Rattle.values.specs.Operators.{op_at, pick_op, among, plain, relations}
use Rattle.values.proofs.Arms.{arm, None, passed}
use Rattle.values.proofs.operate_bits.Goals as goal

module _ (k m n : ℕ) where
  abbrev OneBit : List Op → Type 0
  OneBit [] = Unit
  OneBit (o ∷ os) = (op_bits o m n ≡ 1) × OneBit os

  picked : (t : Bool) (o p : Op) → op_bits o m n ≡ 1 → op_bits p m n ≡ 1 → op_bits (pick_op t o p) m n ≡ 1
  picked true o p h l = h
  picked false o p h l = l

  one_bit : (os : List Op) → OneBit os → op_bits (among os k) m n ≡ 1
  unfolding op_bits
  one_bit [] h = refl
  one_bit (o ∷ os) h = picked (eqb k (kind_no (op_kind o))) o (among os k) h.0 (one_bit os h.1)

  last : None k Unit plain → 1 ≡ op_bits (op_at k) m n
  unfolding op_at op_bits
  last h = rw (passed k Unit plain relations h) (sym (one_bit relations (refl, (refl, (refl, (refl, (refl, tt)))))))

pub returns-in-15 : goal.returns-in-15
unfolding op_bits
returns-in-15 c = rw (arm join c.in-15.is)

pub returns-in-16 : goal.returns-in-16
unfolding op_bits
returns-in-16 c = rw (arm plus c.in-16.is, c.max-long.ensures)

pub returns-in-17 : goal.returns-in-17
unfolding op_bits
returns-in-17 c = rw (arm minus c.in-17.is, c.max-long.ensures)

pub returns-in-32 : goal.returns-in-32
unfolding op_bits
returns-in-32 c = rw (arm and c.in-32.is, c.max-long.ensures)

pub returns-in-33 : goal.returns-in-33
unfolding op_bits
returns-in-33 c = rw (arm eqv c.in-33.is, c.max-long.ensures)

pub returns-in-34 : goal.returns-in-34
unfolding op_bits
returns-in-34 c = rw (arm or c.in-34.is, c.max-long.ensures)

pub returns-in-35 : goal.returns-in-35
unfolding op_bits
returns-in-35 c = rw (arm xor c.in-35.is, c.max-long.ensures)

pub returns-in_default : goal.returns-in_default
unfolding op_bits
returns-in_default c = last _ _ _ c.in_default.in_default-own.rest
