-- Where words are found: a head for each hash of a word, and below it a tree whose nodes are the first names of their words. The search for a word goes on
-- to the left or the right child of a node by one bit of the word after the other, so no tree is deeper than its words have bits.
use Rattle.std.specs.Prelude.{ℕ, zero, suc, ◌+◌, ◌-◌, ◌*◌, ◌/◌, ◌%◌, ◌^◌, ◌<◌, ◌≡◌, List, length, get_or}
use Rattle.cells.specs.Cells.{cell}
use Rattle.room.specs.Spelling.{heads}
use Rattle.rules.specs.Grammar.Trees.{Tokens}
use Rattle.records.specs.Words.{NameAt, word_at}

-- in place of a node's number: there is none
abbrev pub no_node : ℕ
no_node = 65535

-- the cell of two bytes that has the left child (b is 0) or the right one (b is 1) of the node n
abbrev pub child_cell : ℕ → ℕ → ℕ
child_cell n b = heads + 2 * n + b

-- the hash of the first k letters
unfoldable pub hash_to : List ℕ → ℕ → ℕ
hash_to w zero = 0
hash_to w (suc k) = (hash_to w k * 33 + get_or w k 0) % heads

abbrev pub hash_of : List ℕ → ℕ
hash_of w = hash_to w (length w)

-- the bit d of a word: six bits of a letter, which tell all letters apart, and the last letter first, since words often begin alike
abbrev pub bit_of : List ℕ → ℕ → ℕ
bit_of w d = get_or w (length w - (d / 6 + 1)) 0 / 2 ^ (d % 6) % 2

-- the cell to which the search for w comes behind d nodes
unfoldable pub cell_behind : List ℕ → List ℕ → ℕ → ℕ
cell_behind room w zero = hash_of w
cell_behind room w (suc d) = child_cell (cell 2 room (cell_behind room w d)) (bit_of w d)

abbrev pub node_behind : List ℕ → List ℕ → ℕ → ℕ
node_behind room w d = cell 2 room (cell_behind room w d)

-- the search for w passes d nodes, all of them tokens before i with other words
pub record Passes (room : List ℕ) (ts : Tokens) (i : ℕ) (w : List ℕ) (d : ℕ) : Type 0 where
  pub before : (k : ℕ) → k < d → node_behind room w k < i
  pub other : (k : ℕ) → k < d → word_at ts (node_behind room w k) ≡ w → ⊥

-- and comes to the node x
pub record Finds (room : List ℕ) (ts : Tokens) (i : ℕ) (w : List ℕ) (x : ℕ) : Type 0 where
  pub depth : ℕ
  pub passes : Passes room ts i w depth
  pub comes : node_behind room w depth ≡ x
  pub before : x < i

-- x is a node for the cell c: a name before i, and behind the one whose child it is
pub record Node (ts : Tokens) (i c x : ℕ) : Type 0 where
  pub before : x < i
  pub name : NameAt ts x
  pub rises : c < child_cell x 0

-- the heads and the children of the tokens before i have a node each, or none
pub record Grown (room : List ℕ) (ts : Tokens) (i : ℕ) : Type 0 where
  pub node : (c : ℕ) → c < heads + 2 * i → (cell 2 room c ≡ no_node → ⊥) → Node ts i c (cell 2 room c)
