-- A `match` on an operator's number: what an arm knows of the operator, and what the last arm knows, which has no number.
-- Assumes nothing.
use Rattle.std.proofs.Common.{◌≡◌, ℕ, List, [], ◌∷◌, ◌++◌, refl, ap, ◌∙◌, ne_eqb}
use Rattle.rules.specs.Text.Tokens.{Op, kind_no, op_kind}
use Rattle.values.specs.Operators.{op_at, among}
use Rattle.values.specs.Laws.Operators.{op_at_kind}

pub arm : (o : Op) {k : ℕ} → k ≡ kind_no (op_kind o) → op_at k ≡ o
arm o e = ap op_at e ∙ op_at_kind o

-- k is the number of none of the operators, as the last arm has it
abbrev pub None : ℕ → Type 0 → List Op → Type 0
None k known [] = known
None k known (o ∷ os) = None k (known × (k ≡ kind_no (op_kind o) → ⊥)) os

known_first : (k : ℕ) (known : Type 0) (os : List Op) → None k known os → known
known_first k known [] h = h
known_first k known (o ∷ os) h = (known_first k _ os h).0

pub passed : (k : ℕ) (known : Type 0) (os rest : List Op) → None k known os → among (os ++ rest) k ≡ among rest k
passed k known [] rest h = refl
passed k known (o ∷ os) rest h = rw (ne_eqb k (kind_no (op_kind o)) (known_first k _ os h).1) (passed k _ os rest h)
