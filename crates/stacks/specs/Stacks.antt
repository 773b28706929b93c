-- Names on a stack: the numbers of their tokens in cells of lent bytes. An index behind the stack leads from a spelling to a stacked name that has it.
use Rattle.std.specs.Prelude.{ℕ, zero, suc, ◌+◌, ◌*◌, ◌<◌, ◌≤◌, ◌≡◌, List, [], ◌∷◌, length}
use Rattle.cells.specs.Cells.{cell}
use Rattle.rules.specs.Grammar.Trees.{Tokens}
use Rattle.rules.specs.Limits.{most_tokens}
use Rattle.room.specs.Bodies.{index_from, index_end}
use Rattle.rules.specs.Declarations.{Word}
use Rattle.records.specs.Holds.{link_cell}
use Rattle.records.specs.Words.{NameAt, word_at}
use Rattle.spelling.specs.Spelled.{Spelled}

-- the words of the first `count` names, the last first
unfoldable pub stacked_words : Tokens → List ℕ → ℕ → List Word
stacked_words ts room zero = []
stacked_words ts room (suc k) = word_at ts (cell 2 room k) ∷ stacked_words ts room k

-- the cell for the spelling of the name i, and the position of a stacked name that it has
abbrev pub index_cell : List ℕ → ℕ → ℕ
index_cell records i = index_from + link_cell records i

abbrev pub indexed : List ℕ → List ℕ → ℕ → ℕ
indexed records room i = cell 2 room (index_cell records i)

-- The first `count` cells have names. The index leads from each to a name with its spelling, to itself or below it.
pub record Stacked (records : List ℕ) (ts : Tokens) (room : List ℕ) (count : ℕ) : Type 0 where
  pub fits : 2 * count ≤ length room
  pub each : (k : ℕ) → k < count → NameAt ts (cell 2 room k)
  pub lower : (k : ℕ) → k < count → indexed records room (cell 2 room k) ≤ k
  pub alike : (k : ℕ) → k < count → link_cell records (cell 2 room (indexed records room (cell 2 room k))) ≡ link_cell records (cell 2 room k)

-- names are stacked, and a name is the token i
pub record NameView (records room : List ℕ) (count i : ℕ) : Type 0 where
  pub tokens : Tokens
  pub few : length tokens ≤ most_tokens
  pub record_room : 8 * length tokens ≤ length records
  pub spelled : Spelled records tokens
  pub stacked : Stacked records tokens room count
  pub name : NameAt tokens i
  pub large : 2 * index_end ≤ length room

-- r is the position of a stacked name with the spelling of the name i, the one that the index has; or none has it, and r is `count`
pub record FoundAt (records room : List ℕ) (count i r : ℕ) : Type 0 where
  pub within : r ≤ count
  pub alike : r < count → link_cell records (cell 2 room r) ≡ link_cell records i
  pub by_index : r < count → indexed records room i ≡ r
  pub none : r ≡ count → (k : ℕ) → k < count → link_cell records (cell 2 room k) ≡ link_cell records i → ⊥

-- WHAT A CALL LEAVES ALONE: the cells below `count`, those from `base` up to the index, and of the index the cells of the first `count` names
pub record Kept (records : List ℕ) (count base : ℕ) (room₀ room : List ℕ) : Type 0 where
  pub long : length room ≡ length room₀
  pub below : (k : ℕ) → k < count → cell 2 room k ≡ cell 2 room₀ k
  pub above : (k : ℕ) → base ≤ k → k < index_from → cell 2 room k ≡ cell 2 room₀ k
  pub index : (k : ℕ) → k < count → indexed records room (cell 2 room₀ k) ≡ indexed records room₀ (cell 2 room₀ k)

-- the name i is stacked on top of `count` others
pub record Pushed (records : List ℕ) (count i : ℕ) (room₀ room : List ℕ) : Type 0 where
  pub kept : Kept records count (count + 1) room₀ room
  pub top : cell 2 room count ≡ i
  pub lower : indexed records room i ≤ count
  pub alike : link_cell records (cell 2 room (indexed records room i)) ≡ link_cell records i
