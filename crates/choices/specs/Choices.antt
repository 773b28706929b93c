-- The alternatives of one DECODE: where they begin, in the cells of the room for its level of nesting, and what they come to.
use Rattle.std.specs.Prelude.{ℕ, ◌+◌, ◌*◌, ◌<◌, ◌≤◌, min, ◌≡◌, true, false, List, [], ◌∷◌, ◌++◌, ltb, length, drop}
use Rattle.cells.specs.Cells.{cell, put_cell}
use Rattle.rules.specs.Text.Tokens.{Becomes, Info, tk}
use Rattle.rules.specs.Grammar.Trees.{Tokens}
use Rattle.rules.specs.Selectors.{Item}
use Rattle.rules.specs.Faults.Fault.{fault}
use Rattle.records.specs.Holds.{place_cell, Holds}
use Rattle.keys.specs.Keys.{key, no_key}
use Rattle.patterns.specs.Stands.{Held, ItemsAt}
use Rattle.selectors.specs.Overlaps.{FirstOverlap}
use Rattle.room.specs.Bodies.{level_base}

-- the cell of an alternative
abbrev pub start_cell : ℕ → ℕ → ℕ
start_cell depth k = level_base depth + k

abbrev pub with_start : List ℕ → ℕ → ℕ → ℕ → List ℕ
with_start room depth number at = elim (ltb number 64) [ true ↦ put_cell 2 room (start_cell depth number) at | false ↦ room ]

-- the alternatives that are compared
abbrev pub compared : ℕ → ℕ
compared number = min number 64

pub record StartsView (records values room : List ℕ) (depth number : ℕ) : Type 0 where
  pub tokens : Tokens
  pub held : Held records values tokens
  pub large : 2 * level_base (depth + 1) ≤ length room
  pub items : ℕ → List Item
  pub stand : (k : ℕ) → k < compared number → ItemsAt tokens (cell 2 room (start_cell depth k)) (items k)

pub record OverlapAnswer {records values room : List ℕ} {depth number : ℕ} (v : StartsView records values room depth number) (r : ℕ) : Type 0 where
  pub later : ℕ
  pub first : FirstOverlap v.items (compared number) later
  pub none : later ≡ compared number → r ≡ no_key
  pub found : later < compared number → r ≡ key (fault 45 (place_cell records (cell 2 room (start_cell depth later))))

-- tokens without `:=`
abbrev pub NoBecomes : Tokens → Type 0
NoBecomes [] = Unit {0}
NoBecomes (t ∷ ts) = (t.kind ≡ Becomes → ⊥) × NoBecomes ts

-- `:=` stands behind such tokens
pub record BehindView (records : List ℕ) (at : ℕ) : Type 0 where
  pub text : List ℕ
  pub values : List ℕ
  pub tokens : Tokens
  pub holds : Holds text records values tokens
  pub front : Tokens
  pub becomes : Info
  pub rest : Tokens
  pub reads : drop at tokens ≡ front ++ (tk Becomes becomes ∷ rest)
  pub none : NoBecomes front

pub record BehindAnswer {records : List ℕ} {at : ℕ} (v : BehindView records at) (r : ℕ) : Type 0 where
  pub past : at < r
  pub behind : drop r v.tokens ≡ v.rest
