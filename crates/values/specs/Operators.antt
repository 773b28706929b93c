-- The operators by the numbers of their kinds.
use Rattle.std.specs.Prelude.{ℕ, Bool, true, false, List, [], ◌∷◌, ◌++◌, ◌==◌}
use Rattle.rules.specs.Text.Tokens.{Op, join, plus, minus, eql, neq, lss, leq, gtr, geq, and, eqv, or, xor, kind_no, op_kind}

abbrev pub pick_op : Bool → Op → Op → Op
pick_op true a b = a
pick_op false a b = b

-- the operator of the list whose kind has the number k, and `geq` if there is none
abbrev pub among : List Op → ℕ → Op
among [] k = geq
among (o ∷ os) k = pick_op (k == kind_no (op_kind o)) o (among os k)

-- the operators that are no relations
abbrev pub plain : List Op
plain = join ∷ plus ∷ minus ∷ and ∷ eqv ∷ or ∷ xor ∷ []

-- the relations, but for `geq`
abbrev pub relations : List Op
relations = eql ∷ neq ∷ lss ∷ leq ∷ gtr ∷ []

unfoldable pub op_at : ℕ → Op
op_at k = among (plain ++ relations) k
