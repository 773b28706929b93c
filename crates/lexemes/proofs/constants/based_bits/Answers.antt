-- `lexemes::constants::based_bits` meets its contract by the bits of a digit.
-- Assumes nothing.
use native.Mathlib.Omega.{arith}
use Rattle.lexemes.specs.Laws.Digits.{binary, octal, hexadecimal}
use Rattle.lexemes.proofs.constants.based_bits.Goals as goal

pub returns-then-sign-eq39 : goal.returns-then-sign-eq39
returns-then-sign-eq39 c = rw (binary _ c.if-sign-eq39.true) (omega arith)

pub returns-then-sign-eq35 : goal.returns-then-sign-eq35
returns-then-sign-eq35 c = rw (octal _ c.if-sign-eq35.true) (omega arith)

pub returns : goal.returns
returns c = rw (hexadecimal _ c.if-sign-eq39.false c.if-sign-eq35.false) (omega arith)
