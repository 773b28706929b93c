-- The cells of the tokens of a description, worked out from its first token to its last: the member that a token is in, whether it begins one, and a frame for
-- each BEGIN that is open.
use Rattle.std.specs.Prelude.{ℕ, zero, suc, ◌-◌, ◌≡◌, Bool, true, false, List, [], ◌∷◌, eqb, ltb, length}
use Rattle.rules.specs.Text.Tokens.{Semi, BEGIN, END, NEXT, kind_no}
use Rattle.rules.specs.Grammar.Trees.{Tokens}
use Rattle.rules.specs.Limits.{deepest}
use Rattle.table.specs.Scans.{no}
use Rattle.reading.specs.Groups.{more}
use Rattle.telling.specs.Cited.Cells.{Cells, rank_of, inner}

-- an open BEGIN: the member around it, and how many members of its present group come before the present one
pub record Frame : Type 0 where
  pub outer : ℕ
  pub before : ℕ

abbrev pub frame : ℕ → ℕ → Frame
frame x j = record { outer = x; before = j }

-- in front of a token: the open BEGINs, the member that the token is in, and its two cells
pub record State : Type 0 where
  pub frames : List Frame
  pub around : ℕ
  pub rank : ℕ
  pub up : ℕ

-- it begins no member
abbrev pub inside : List Frame → ℕ → State
inside fs x = record { frames = fs; around = x; rank = 0; up = x }

abbrev pub outset : State
outset = inside [] 0

-- an action that is alone in its group is no member
abbrev pub ranked : ℕ → Bool → ℕ
ranked zero false = 0
ranked zero true = rank_of 0 true
ranked (suc j) b = rank_of (suc j) b

-- the token p begins an action of a block; b says whether `;` stands behind that action
abbrev pub begun : ℕ → Bool → Frame → List Frame → State
begun p b f fs = record { frames = f ∷ fs; around = inner f.outer p f.before b; rank = ranked f.before b; up = f.outer }

-- BEGIN; no description is deeper. What begins behind the BEGIN of a DECODE has no `;` behind it.
abbrev pub opened : Bool → ℕ → Bool → State → State
opened true p b s = begun p b (frame s.around 0) s.frames
opened false p b s = inside s.frames s.around

-- END
abbrev pub closed : List Frame → State → State
closed [] s = inside [] s.around
closed (f ∷ fs) s = inside fs f.outer

-- `;`
abbrev pub also : List Frame → ℕ → Bool → State → State
also [] p b s = inside [] s.around
also (f ∷ fs) p b s = begun p b (frame f.outer (suc f.before)) fs

-- NEXT
abbrev pub next : List Frame → ℕ → Bool → State → State
next [] p b s = inside [] s.around
next (f ∷ fs) p b s = begun p b (frame f.outer 0) fs

-- what a token of the kind k does, with the token p behind it, and b for what begins there
unfoldable pub acted : ℕ → ℕ → Bool → State → State
acted p k b s =
    elim (eqb k (kind_no BEGIN)) [
      | true ↦ opened (ltb (length s.frames) deepest) p b s
      | false ↦ elim (eqb k (kind_no END)) [
        | true ↦ closed s.frames s
        | false ↦ elim (eqb k (kind_no Semi)) [
          | true ↦ also s.frames p b s
          | false ↦ elim (eqb k (kind_no NEXT)) [ true ↦ next s.frames p b s | false ↦ inside s.frames s.around ]
        ]
      ]
    ]

module _ (K : Cells) (n : ℕ) where
  -- the token i has its cells
  pub record Told (i : ℕ) (s : State) : Type 0 where
    pub rank : K.rank i ≡ s.rank
    pub up : K.up i ≡ s.up

  -- the last tokens of n have theirs
  abbrev pub Follows : State → Tokens → Type 0
  Follows s [] = Unit {0}
  Follows s (t ∷ ts) = Told (n - suc (length ts)) s × Follows (acted (n - length ts) (no t) (more ts) s) ts
