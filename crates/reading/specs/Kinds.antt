-- What the kinds of tokens mean to one who reads a body from left to right. Kinds go by their numbers, as in the table.
use Rattle.std.specs.Prelude.{ℕ, suc, Bool, true, false, ◌&&◌, [], ◌∷◌, eqb}
use Rattle.rules.specs.Text.Tokens.{LBra, RBra, Less, Comma, Semi, Becomes, Equals, Arrow, At, BEGIN, END, NEXT, IF, DECODE, REPEAT, kind_no}
use Rattle.rules.specs.Grammar.Trees.{Tokens}
use Rattle.rules.specs.Whole.Sets.{member}
use Rattle.records.specs.Holds.{no_kind}
use Rattle.table.specs.Scans.{no, down, outermost, halts}

-- the kind that comes next; past the end a number that no kind has
abbrev pub next_no : Tokens → ℕ
next_no [] = no_kind
next_no (t ∷ ts) = no t

-- behind `=`, IF and DECODE stands an expression
unfoldable pub tests : ℕ → Bool
tests k = member k (kind_no Equals ∷ kind_no IF ∷ kind_no DECODE ∷ [])

-- behind `,`, `;`, `:=`, `=>`, BEGIN, END, NEXT and REPEAT stands an action, or nothing that names a carrier
unfoldable pub begins : ℕ → Bool
begins k = member k (kind_no Comma ∷ kind_no Semi ∷ kind_no Becomes ∷ kind_no Arrow ∷ kind_no BEGIN ∷ kind_no END ∷ kind_no NEXT ∷ kind_no REPEAT ∷ [])

-- `[`, `<`, `=` and `@` stand behind a name that is stored to
unfoldable pub stores : ℕ → Bool
stores k = member k (kind_no LBra ∷ kind_no Less ∷ kind_no Equals ∷ kind_no At ∷ [])

-- an action ends at the first separator at its own depth
abbrev pub ends : ℕ → ℕ → Bool
ends d k = halts 0 d k

-- or with the END of its own block
unfoldable pub closes : ℕ → ℕ → Bool
closes d k = eqb k (kind_no END) && outermost (down d)

-- Where names are stored to, 0; where they are read, one more than the open `[`.
unfoldable pub mode : ℕ → ℕ → ℕ
mode m k =
    elim (tests k) [
      | true ↦ 1
      | false ↦ elim (begins k) [
        | true ↦ 0
        | false ↦ elim (eqb k (kind_no LBra)) [
          | true ↦ suc m
          | false ↦ elim (eqb k (kind_no RBra)) [ true ↦ down m | false ↦ m ]
        ]
      ]
    ]
