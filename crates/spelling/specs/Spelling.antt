-- How far names are spelled, and what is written for one of them.
use Rattle.std.specs.Prelude.{ℕ, ◌+◌, ◌*◌, ◌<◌, ◌≤◌, ◌≡◌, List, length}
use Rattle.cells.specs.Cells.{cell}
use Rattle.rules.specs.Grammar.Trees.{Tokens}
use Rattle.records.specs.Holds.{link_cell, Holds}
use Rattle.records.specs.Words.{NameAt, word_at}
use Rattle.spelling.specs.Trees.{no_node, cell_behind, Passes, Finds, Grown}
use Rattle.room.specs.Spelling.{heads}

-- x is the first name with the word of the name j, and the search for that word finds it among the names before i
pub record Spells (room : List ℕ) (ts : Tokens) (i j x : ℕ) : Type 0 where
  pub name : NameAt ts x
  pub word : word_at ts x ≡ word_at ts j
  pub found : Finds room ts i (word_at ts j) x

-- the names before the token i are spelled
pub record SpelledTo (records room : List ℕ) (ts : Tokens) (i : ℕ) : Type 0 where
  pub grown : Grown room ts i
  pub each : (j : ℕ) → j < i → NameAt ts j → Spells room ts i j (link_cell records j)

-- so it is in a table, and i is one of its tokens
pub record Spelling (text records room : List ℕ) (i : ℕ) : Type 0 where
  pub values : List ℕ
  pub tokens : Tokens
  pub holds : Holds text records values tokens
  pub within : i < length tokens
  pub spelled : SpelledTo records room tokens i

-- and a name
pub record Seeking (text records room : List ℕ) (i : ℕ) : Type 0 where
  pub spelling : Spelling text records room i
  pub name : NameAt spelling.tokens i

-- the search for the name i ends at the cell c: it has a name of the same word, or none
pub record Ends (room : List ℕ) (ts : Tokens) (i c : ℕ) : Type 0 where
  pub depth : ℕ
  pub comes : c ≡ cell_behind room (word_at ts i) depth
  pub passes : Passes room ts i (word_at ts i) depth
  pub inside : c < heads + 2 * i
  pub same : (cell 2 room c ≡ no_node → ⊥) → word_at ts (cell 2 room c) ≡ word_at ts i

-- the cells from a up to b have no node
pub record Cleared (room : List ℕ) (a b : ℕ) : Type 0 where
  pub none : (c : ℕ) → a ≤ c → c < b → cell 2 room c ≡ no_node

-- the token i has no child, and the cells before its own are as they were
pub record Opened (old now : List ℕ) (i : ℕ) : Type 0 where
  pub kept : (c : ℕ) → c < heads + 2 * i → cell 2 now c ≡ cell 2 old c
  pub cleared : Cleared now (heads + 2 * i) (heads + 2 * (i + 1))
