-- What stands behind the `]` that closes a `[`.
use Rattle.std.specs.Prelude.{ℕ, zero, suc, true, false, [], ◌∷◌, eqb}
use Rattle.rules.specs.Text.Tokens.{LBra, RBra, kind_no}
use Rattle.rules.specs.Grammar.Trees.{Tokens}

abbrev pub down : ℕ → ℕ
down zero = zero
down (suc d) = d

-- how many `[` are open behind a token of kind k
unfoldable pub opened : ℕ → ℕ → ℕ
opened d k = elim (eqb k (kind_no LBra)) [ true ↦ suc d | false ↦ elim (eqb k (kind_no RBra)) [ true ↦ down d | false ↦ d ] ]

-- what stands behind the `]` that closes the last of d open ones
unfoldable pub past : ℕ → Tokens → Tokens
past d [] = []
past d (t ∷ ts) = elim d [ zero ↦ t ∷ ts | suc e ↦ past (opened (suc e) (kind_no t.kind)) ts ]
