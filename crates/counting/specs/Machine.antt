-- A body read from its first token to its last, token by token: what `walk` does along the tree, with a frame for each BEGIN that is open.
use Rattle.std.specs.Prelude.{ℕ, zero, suc, ◌+◌, max, Bool, true, false, List, [], ◌∷◌, eqb, ltb, length}
use Rattle.rules.specs.Text.Tokens.{Name, LPar, Comma, Equals, BEGIN, END, IF, DECODE, REPEAT, LEAVE, RESTART, STOP, NO-OP, kind_no}
use Rattle.rules.specs.Grammar.Trees.{Tokens}
use Rattle.rules.specs.Limits.{deepest}
use Rattle.rules.specs.Declarations.{Word}
use Rattle.rules.specs.Whole.Sets.{member}
use Rattle.bounds.specs.Cited.Counts.{endless, up}
use Rattle.table.specs.Scans.{no}
use Rattle.reading.specs.Kinds.{next_no, mode}

-- an open BEGIN: the count in front of it, and the greatest behind one of its alternatives so far
pub record Frame : Type 0 where
  pub base : ℕ
  pub best : ℕ

abbrev pub frame : ℕ → ℕ → Frame
frame b x = record { base = b; best = x }

pub record State : Type 0 where
  pub frames : List Frame
  pub count : ℕ

abbrev pub state : List Frame → ℕ → State
state fs x = record { frames = fs; count = x }

-- BEGIN; no description is deeper
abbrev pub opened : Bool → State → State
opened true s = state (frame s.count s.count ∷ s.frames) s.count
opened false s = state [] s.count

-- END
abbrev pub closed : List Frame → State → State
closed [] s = s
closed (f ∷ fs) s = state fs (max f.best s.count)

-- `,`
abbrev pub another : List Frame → State → State
another [] s = s
another (f ∷ fs) s = state (frame f.base (max f.best s.count) ∷ fs) f.base

-- k steps more
abbrev pub counted : ℕ → State → State
counted k s = state s.frames (up s.count k)

abbrev pub turned : State → State
turned s = state s.frames endless

abbrev pub outset : State
outset = state [] 0

abbrev pub none_open : List Frame → Bool
none_open [] = true
none_open (f ∷ fs) = false

-- the tokens that stand for a step; an activation is known by what stands behind its name
unfoldable pub takes_step : ℕ → Bool
takes_step k = member k (kind_no Equals ∷ kind_no IF ∷ kind_no DECODE ∷ kind_no LEAVE ∷ kind_no STOP ∷ kind_no NO-OP ∷ [])

unfoldable pub turns : ℕ → Bool
turns k = member k (kind_no REPEAT ∷ kind_no RESTART ∷ [])

module _ (counts : Word → ℕ) where
  -- a name at the start of an action, by the kind behind it
  abbrev pub acting : Bool → Word → State → State
  acting true w s = counted (1 + counts w) s
  acting false w s = s

  abbrev pub named : ℕ → Word → ℕ → State → State
  named zero w q s = acting (eqb q (kind_no LPar)) w s
  named (suc m) w q s = s

  -- what a token of the kind k does, with the mode before it, its word and the kind behind it
  unfoldable pub acted : ℕ → ℕ → Word → ℕ → State → State
  acted m k w q s =
      elim (eqb k (kind_no Name)) [
        | true ↦ named m w q s
        | false ↦ elim (eqb k (kind_no BEGIN)) [
          | true ↦ opened (ltb (length s.frames) deepest) s
          | false ↦ elim (eqb k (kind_no END)) [
            | true ↦ closed s.frames s
            | false ↦ elim (eqb k (kind_no Comma)) [
              | true ↦ another s.frames s
              | false ↦ elim (takes_step k) [ true ↦ counted 1 s | false ↦ elim (turns k) [ true ↦ turned s | false ↦ s ] ]
            ]
          ]
        ]
      ]

  -- up to the END of the body
  unfoldable pub run : ℕ → State → Tokens → ℕ
  run m s [] = s.count
  run m s (t ∷ ts) =
      let n = acted m (no t) t.info.word (next_no ts) s in elim (none_open n.frames) [ true ↦ n.count | false ↦ run (mode m (no t)) n ts ]
