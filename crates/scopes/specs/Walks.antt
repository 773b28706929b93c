-- A body read from its first token to its last, with the scopes of the blocks that are open: the faults of its groups, of its members and of its jumps.
-- Only the least of them counts.
use Rattle.std.specs.Prelude.{ℕ, Bool, true, false, ◌&&◌, List, [], ◌∷◌, ◌++◌, eqb}
use Rattle.std.proofs.Math.Option.{none, some}
use Rattle.rules.specs.Text.Tokens.{Name, Comma, Semi, Becomes, BEGIN, END, NEXT, LEAVE, RESTART, Token, kind_no}
use Rattle.rules.specs.Grammar.Trees.{Tokens}
use Rattle.rules.specs.Declarations.{Word, Table}
use Rattle.rules.specs.Whole.Sets.{member}
use Rattle.rules.specs.Faults.Fault.{Fault, when}
use Rattle.rules.specs.Faults.Whole.{Scope, labelled_in, aims_out, member_scope}
use Rattle.reading.specs.Kinds.{next_no}
use Rattle.reading.specs.Groups.{more, group_at}
use Rattle.table.specs.Scans.{no}

abbrev pub next_word : Tokens → Word
next_word [] = []
next_word (t ∷ ts) = t.info.word

-- LEAVE and RESTART
unfoldable pub jumps : ℕ → Bool
jumps k = member k (kind_no LEAVE ∷ kind_no RESTART ∷ [])

-- behind BEGIN and NEXT a group begins
unfoldable pub opens : ℕ → Bool
opens k = member k (kind_no BEGIN ∷ kind_no NEXT ∷ [])

-- the scope around the innermost open block; whether that is the body itself
abbrev pub around : List Scope → Scope
around [] = none
around (o ∷ σ) = o

abbrev pub outside : List Scope → List Scope
outside [] = []
outside (o ∷ σ) = σ

abbrev pub last_open : List Scope → Bool
last_open [] = true
last_open (o ∷ []) = true
last_open (o ∷ q ∷ σ) = false

-- behind `:=` the name before it is a label
unfoldable pub labelling : Token → Scope → Scope
labelling p s = elim (eqb (no p) (kind_no Name)) [ true ↦ labelled_in p.info.word s | false ↦ s ]

unfoldable pub jump_at : Scope → Token → Tokens → List Fault
jump_at s t ts = when (jumps (no t) && (eqb (next_no ts) (kind_no Name) && aims_out s (next_word ts))) 52 t.info.place

module _ (ds : Table) where
  -- with the scopes around the open blocks, the scope here and the token before
  unfoldable pub walk : List Scope → Scope → Token → Tokens → List Fault
  walk σ s p [] = []
  walk σ s p (t ∷ ts) =
      elim (eqb (no t) (kind_no BEGIN)) [
        | true ↦ group_at ds ts ++ walk (s ∷ σ) (member_scope ds (more ts) s) t ts
        | false ↦ elim (eqb (no t) (kind_no END)) [
          | true ↦ elim (last_open σ) [ true ↦ [] | false ↦ walk (outside σ) (around σ) t ts ]
          | false ↦ elim (eqb (no t) (kind_no Semi)) [
            | true ↦ walk σ (some []) t ts
            | false ↦ elim (eqb (no t) (kind_no NEXT)) [
              | true ↦ group_at ds ts ++ walk σ (member_scope ds (more ts) (around σ)) t ts
              | false ↦ elim (eqb (no t) (kind_no Comma)) [
                | true ↦ walk σ (around σ) t ts
                | false ↦ elim (eqb (no t) (kind_no Becomes)) [
                  | true ↦ walk σ (labelling p s) t ts
                  | false ↦ jump_at s t ts ++ walk σ s t ts
                ]
              ]
            ]
          ]
        ]
      ]

  -- one token at a time
  unfoldable pub faults_at : Scope → Token → Tokens → List Fault
  faults_at s t ts = elim (opens (no t)) [ true ↦ group_at ds ts | false ↦ jump_at s t ts ]
