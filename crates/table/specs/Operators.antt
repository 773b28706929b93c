-- What a token's kind says of an expression: how tightly an operator binds, and what may stand behind an access or an expression.
use Rattle.std.specs.Prelude.{ℕ, Bool, true, false, not, ◌&&◌, List, [], ◌∷◌, eqb}
use Rattle.rules.specs.Text.Tokens.{Kind, kind_no, same, LBra, Less, Op, op_kind, join, plus, minus, eql, neq, lss, leq, gtr, geq, and, eqv, or, xor}
use Rattle.rules.specs.Grammar.Precedence.{tightness}

abbrev pub pick : Bool → ℕ → ℕ → ℕ
pick true a b = a
pick false a b = b

abbrev pub operators : List Op
operators = join ∷ plus ∷ minus ∷ eql ∷ neq ∷ lss ∷ leq ∷ gtr ∷ geq ∷ and ∷ eqv ∷ or ∷ xor ∷ []

abbrev pub tightness_in : List Op → ℕ → ℕ
tightness_in [] k = 0
tightness_in (o ∷ os) k = pick (eqb k (kind_no (op_kind o))) (tightness o) (tightness_in os k)

-- how tightly the operator binds whose kind has the number k; 0 for any other kind
abbrev pub tightness_at : ℕ → ℕ
tightness_at k = tightness_in operators k

-- what may stand behind an access: no `[` and no `<`
abbrev pub ends_access : Kind → Bool
ends_access k = not (same k LBra) && not (same k Less)

-- and behind an expression: no operator either
abbrev pub ends_expression : Kind → Bool
ends_expression k = eqb (tightness_at (kind_no k)) 0 && ends_access k
