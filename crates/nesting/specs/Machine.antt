-- A body read from its first token to its last, token by token: what `walk` does along the tree, with a frame for each BEGIN that is open.
use Rattle.std.specs.Prelude.{ℕ, zero, suc, Bool, true, false, cond, ◌||◌, ◌&&◌, List, [], ◌∷◌, eqb, ltb, length}
use Rattle.rules.specs.Text.Tokens.{Name, LPar, Comma, Semi, Becomes, Equals, BEGIN, END, NEXT, IF, DECODE, REPEAT, LEAVE, NO-OP, kind_no, Token}
use Rattle.rules.specs.Grammar.Trees.{Tokens}
use Rattle.rules.specs.Limits.{deepest}
use Rattle.rules.specs.Declarations.{Word, Table}
use Rattle.rules.specs.Whole.Sets.{member, owner}
use Rattle.paths.specs.Cited.Early.{Report, activation}
use Rattle.paths.specs.Cited.Marks.{Marks, Slot, slot, marked, cleared, added, flag_of, marked_at, unmarked}
use Rattle.reading.specs.Kinds.{next_no, stores, mode}
use Rattle.table.specs.Scans.{no}
use Rattle.scopes.specs.Walks.{next_word}

-- An open BEGIN: the labels around it and the flag at its end, its own flag, whether control comes to the present group, whether all of its members so far
-- have ended; and whether it is a block, or has the alternatives of a DECODE.
pub record Frame : Type 0 where
  pub labels : List Slot
  pub flag : ℕ
  pub own : ℕ
  pub comes : Bool
  pub ended : Bool
  pub group : Bool

abbrev pub frame : List Slot → ℕ → ℕ → Bool → Bool → Bool → Frame
frame ls k d b c g = record { labels = ls; flag = k; own = d; comes = b; ended = c; group = g }

-- the destination that is being read: whether it has begun, the place of its first name, whether a part of it is the output
pub record Dest : Type 0 where
  pub begun : Bool
  pub place : ℕ
  pub hit : Bool

abbrev pub idle : Dest
idle = record { begun = false; place = 0; hit = false }

abbrev pub parts : ℕ → Bool → Dest
parts p h = record { begun = true; place = p; hit = h }

pub record State : Type 0 where
  pub frames : List Frame
  pub free : ℕ
  pub marks : Marks
  pub labels : List Slot
  pub flag : ℕ
  pub comes : Bool
  pub choosing : Bool
  pub dest : Dest

abbrev pub state : List Frame → ℕ → Marks → List Slot → ℕ → Bool → Bool → Dest → State
state fs d w ls k b c x = record { frames = fs; free = d; marks = w; labels = ls; flag = k; comes = b; choosing = c; dest = x }

-- between two actions
abbrev pub settled : List Frame → ℕ → Marks → State
settled fs d w = state fs d w [] 0 false false idle

-- BEGIN of a block, or of the alternatives of a DECODE
abbrev pub begun : Bool → State → State
begun true s =
    state (frame s.labels s.flag s.free s.comes true false ∷ s.frames) s.free s.marks s.labels s.flag s.comes false idle
begun false s =
    state (frame s.labels s.flag s.free s.comes true true ∷ s.frames) (suc s.free) (cleared s.free s.marks) s.labels s.free s.comes
    false idle

-- no description is deeper
abbrev pub opened : Bool → State → State
opened true s = begun s.choosing s
opened false s = settled [] 0 s.marks

abbrev pub closed : List Frame → State → State
closed [] s = s
closed (f ∷ fs) s =
    state fs f.own (cond f.group (marked f.flag (f.ended && s.marks.flags f.own) s.marks) s.marks) f.labels 0 false false idle

-- `;`
abbrev pub also : List Frame → State → State
also [] s = s
also (f ∷ fs) s =
    state (frame f.labels f.flag f.own f.comes (f.ended && s.marks.flags f.own) f.group ∷ fs) s.free (cleared f.own s.marks)
    f.labels f.own f.comes false idle

-- NEXT
abbrev pub next : List Frame → State → State
next [] s = s
next (f ∷ fs) s =
    state (frame f.labels f.flag f.own (f.ended && s.marks.flags f.own) true f.group ∷ fs) s.free (cleared f.own s.marks)
    f.labels f.own (f.ended && s.marks.flags f.own) false idle

-- `,`
abbrev pub another : List Frame → State → State
another [] s = s
another (f ∷ fs) s = state (f ∷ fs) s.free s.marks f.labels f.flag f.comes false idle

-- control comes to the end here
abbrev pub reached : State → Marks → State
reached s w = state s.frames s.free (marked s.flag s.comes w) s.labels s.flag s.comes s.choosing s.dest

abbrev pub chosen : Bool → State → State
chosen c s = state s.frames s.free s.marks s.labels s.flag s.comes c s.dest

abbrev pub looped : State → State
looped s = state s.frames s.free s.marks s.labels 0 s.comes s.choosing s.dest

abbrev pub left : Word → State → State
left n s = state s.frames s.free (marked_at (flag_of s.labels n) s.comes s.marks) s.labels s.flag s.comes s.choosing s.dest

-- LEAVE, if a name stands behind it
abbrev pub aimed : Bool → Word → State → State
aimed true n s = left n s
aimed false n s = s

abbrev pub labelled : Word → State → State
labelled n s = state s.frames s.free s.marks (slot n s.flag ∷ s.labels) s.flag s.comes s.choosing s.dest

-- one more part of a destination
abbrev pub part : Dest → ℕ → Bool → Dest
part x p h = parts (cond x.begun x.place p) (cond x.begun (x.hit || h) h)

abbrev pub destined : ℕ → Bool → State → State
destined p h s = state s.frames s.free s.marks s.labels s.flag s.comes s.choosing (part s.dest p h)

-- `=`: a part of the destination behind which it stands is the output or not
abbrev pub transferred : State → State
transferred s =
    state s.frames s.free (marked s.flag s.comes (added (cond s.comes (cond s.dest.hit (s.dest.place ∷ []) []) []) s.marks)) s.labels
    s.flag s.comes s.choosing idle

-- a body, with its own name as the outermost label
abbrev pub outset : Word → State
outset n = state [] 2 unmarked (slot n 1 ∷ []) 1 true false idle

abbrev pub none_open : List Frame → Bool
none_open [] = true
none_open (f ∷ fs) = false

module _ (ds : Table) (test : Word) (output : ℕ) (known : Word → Report) where
  abbrev pub activated : Word → State → State
  activated n s =
      let x = activation test n (known n) in
      state s.frames s.free (marked s.flag (s.comes && x.ends) (added (cond s.comes x.places []) s.marks)) s.labels s.flag s.comes
      s.choosing s.dest

  -- a name at the start of an action or in a destination, by the kind behind it
  abbrev pub acting : Token → ℕ → State → State
  acting t k s =
      elim (eqb k (kind_no Becomes)) [
        | true ↦ labelled t.info.word s
        | false ↦ elim (eqb k (kind_no LPar)) [
          | true ↦ activated t.info.word s
          | false ↦ elim (stores k) [ true ↦ destined t.info.place (member output (owner ds t.info.word)) s | false ↦ s ]
        ]
      ]

  abbrev pub named : ℕ → Token → ℕ → State → State
  named zero t k s = acting t k s
  named (suc m) t k s = s

  -- what a token of the kind k does, with the mode before it and the tokens behind it
  unfoldable pub acted : ℕ → ℕ → Token → Tokens → State → State
  acted m k t ts s =
      elim (eqb k (kind_no Name)) [
        | true ↦ named m t (next_no ts) s
        | false ↦ elim (eqb k (kind_no BEGIN)) [
          | true ↦ opened (ltb (length s.frames) deepest) s
          | false ↦ elim (eqb k (kind_no END)) [
            | true ↦ closed s.frames s
            | false ↦ elim (eqb k (kind_no Semi)) [
              | true ↦ also s.frames s
              | false ↦ elim (eqb k (kind_no NEXT)) [
                | true ↦ next s.frames s
                | false ↦ elim (eqb k (kind_no Comma)) [
                  | true ↦ another s.frames s
                  | false ↦ elim (eqb k (kind_no Equals)) [
                    | true ↦ transferred s
                    | false ↦ elim (eqb k (kind_no IF)) [
                      | true ↦ reached (chosen false s) s.marks
                      | false ↦ elim (eqb k (kind_no DECODE)) [
                        | true ↦ chosen true s
                        | false ↦ elim (eqb k (kind_no REPEAT)) [
                          | true ↦ looped s
                          | false ↦ elim (eqb k (kind_no LEAVE)) [
                            | true ↦ aimed (eqb (next_no ts) (kind_no Name)) (next_word ts) s
                            | false ↦ elim (eqb k (kind_no NO-OP)) [ true ↦ reached s s.marks | false ↦ s ]
                          ]
                        ]
                      ]
                    ]
                  ]
                ]
              ]
            ]
          ]
        ]
      ]

  -- up to the END of the body
  unfoldable pub run : ℕ → State → Tokens → Marks
  run m s [] = s.marks
  run m s (t ∷ ts) = let n = acted m (no t) t ts s in elim (none_open n.frames) [ true ↦ n.marks | false ↦ run (mode m (no t)) n ts ]
