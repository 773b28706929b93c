-- Laws of operators by their kinds.
-- Assumes nothing.
use Rattle.std.specs.Prelude.{ℕ, ◌≤◌, ◌≡◌, refl, Bool, true, false, not, ◌&&◌, List, [], ◌∷◌, eqb}
use Rattle.std.proofs.Common.{arith, eqb-true, eq-eqb, ne_eqb}
use Rattle.rules.specs.Text.Tokens.{Kind, kind_no, same, LBra, Less, Op, op_kind, join, plus, minus, eql, neq, lss, leq, gtr, geq, and, eqv, or, xor}
use Rattle.rules.specs.Grammar.Precedence.{tightness}
use Rattle.table.specs.Operators.{tightness_in, tightness_at, ends_access, ends_expression}

pub tightness_at_lem : (o : Op) → tightness_at (kind_no (op_kind o)) ≡ tightness o
tightness_at_lem join = refl
tightness_at_lem plus = refl
tightness_at_lem minus = refl
tightness_at_lem eql = refl
tightness_at_lem neq = refl
tightness_at_lem lss = refl
tightness_at_lem leq = refl
tightness_at_lem gtr = refl
tightness_at_lem geq = refl
tightness_at_lem and = refl
tightness_at_lem eqv = refl
tightness_at_lem or = refl
tightness_at_lem xor = refl

-- a number that is no operator's
abbrev OtherThan : ℕ → List Op → Type 0
OtherThan k [] = Unit {0}
OtherThan k (o ∷ os) = (k ≡ kind_no (op_kind o) → ⊥) × OtherThan k os

pub no_tightness : (k : ℕ) (os : List Op) → OtherThan k os → 0 ≡ tightness_in os k
no_tightness k [] h = refl
no_tightness k (o ∷ os) h = rw (ne_eqb k (kind_no (op_kind o)) h.0) (no_tightness k os h.1)

pub tightness_range : (o : Op) → (1 ≤ tightness o) × (tightness o ≤ 5)
tightness_range join = (omega arith, omega arith)
tightness_range plus = (omega arith, omega arith)
tightness_range minus = (omega arith, omega arith)
tightness_range eql = (omega arith, omega arith)
tightness_range neq = (omega arith, omega arith)
tightness_range lss = (omega arith, omega arith)
tightness_range leq = (omega arith, omega arith)
tightness_range gtr = (omega arith, omega arith)
tightness_range geq = (omega arith, omega arith)
tightness_range and = (omega arith, omega arith)
tightness_range eqv = (omega arith, omega arith)
tightness_range or = (omega arith, omega arith)
tightness_range xor = (omega arith, omega arith)

pub both_true : (a b : Bool) → a && b ≡ true → (a ≡ true) × (b ≡ true)
both_true true b e = (refl, e)
both_true false b e = absurd (let z : ◌≡◌ {A = ℕ} 0 1 = cc in omega arith)

not_same : (k l : Kind) → not (same k l) ≡ true → kind_no k ≡ kind_no l → ⊥
not_same k l e h = let t = eq-eqb (kind_no k) (kind_no l) h in let z : ◌≡◌ {A = ℕ} 0 1 = cc in omega arith

pub no_index : (k : Kind) → ends_access k ≡ true → kind_no k ≡ kind_no LBra → ⊥
no_index k e = not_same k LBra (both_true (not (same k LBra)) (not (same k Less)) e).0

pub no_bits : (k : Kind) → ends_access k ≡ true → kind_no k ≡ kind_no Less → ⊥
no_bits k e = not_same k Less (both_true (not (same k LBra)) (not (same k Less)) e).1

pub no_operator : (k : Kind) → ends_expression k ≡ true → tightness_at (kind_no k) ≡ 0
no_operator k e = eqb-true _ _ (both_true (eqb (tightness_at (kind_no k)) 0) (ends_access k) e).0

pub ends_access_lem : (k : Kind) → ends_expression k ≡ true → ends_access k ≡ true
ends_access_lem k e = (both_true (eqb (tightness_at (kind_no k)) 0) (ends_access k) e).1

pub operator_ends : (o : Op) → ends_access (op_kind o) ≡ true
operator_ends join = refl
operator_ends plus = refl
operator_ends minus = refl
operator_ends eql = refl
operator_ends neq = refl
operator_ends lss = refl
operator_ends leq = refl
operator_ends gtr = refl
operator_ends geq = refl
operator_ends and = refl
operator_ends eqv = refl
operator_ends or = refl
operator_ends xor = refl
