-- Searches along the tokens outside of blocks: what stands from the token on that is looked for. Kinds go by their numbers, as in the table.
use Rattle.std.specs.Prelude.{ℕ, zero, suc, Bool, true, false, ◌&&◌, [], ◌∷◌, eqb}
use Rattle.rules.specs.Text.Tokens.{Comma, Semi, BEGIN, END, NEXT, kind_no, Token}
use Rattle.rules.specs.Grammar.Trees.{Tokens}
use Rattle.rules.specs.Whole.Sets.{member}

abbrev pub no : Token → ℕ
no t = kind_no t.kind

-- `,`, `;`, END and NEXT stand behind an action
unfoldable pub separates : ℕ → Bool
separates k = member k (kind_no Comma ∷ kind_no Semi ∷ kind_no END ∷ kind_no NEXT ∷ [])

-- what is looked for: a token of a kind, or with 0 any that separates actions
unfoldable pub stops : ℕ → ℕ → Bool
stops g k = elim (eqb g 0) [ true ↦ separates k | false ↦ eqb k g ]

abbrev pub down : ℕ → ℕ
down zero = zero
down (suc d) = d

abbrev pub outermost : ℕ → Bool
outermost zero = true
outermost (suc d) = false

-- the search ends outside of blocks only
unfoldable pub halts : ℕ → ℕ → ℕ → Bool
halts g d k = stops g k && outermost d

-- how many BEGINs are open behind a token of kind k
unfoldable pub deeper : ℕ → ℕ → ℕ
deeper d k = elim (eqb k (kind_no BEGIN)) [ true ↦ suc d | false ↦ elim (eqb k (kind_no END)) [ true ↦ down d | false ↦ d ] ]

unfoldable pub scan : ℕ → ℕ → Tokens → Tokens
scan g d [] = []
scan g d (t ∷ ts) = elim (halts g d (no t)) [ true ↦ t ∷ ts | false ↦ scan g (deeper d (no t)) ts ]
