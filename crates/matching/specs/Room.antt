-- The matching that stands in the lent memory.
use Rattle.std.specs.Prelude.{ℕ, zero, suc, ◌+◌, ◌*◌, ◌<◌, ◌≤◌, ◌≡◌, cond, List, [], ◌∷◌, eqb, ltb, length, get_or}
use Rattle.std.proofs.Math.Option.{none, some}
use Rattle.cells.specs.Cells.{cell}
use Rattle.rules.specs.Limits.{most_words}
use Rattle.room.specs.Trace.{room_size, most_groups, next_cell, groups_cell, floor_cell, bad_cell, depth_cell, first_cell}
use Rattle.rules.specs.Stores.{Entry, entry}
use Rattle.traces.specs.Cited.Marking.{Pos, at, never, Cells}
use Rattle.rules.specs.Entries.{most_entries}
use Rattle.matching.specs.Matching.{Group, group, Matching, matching}

-- the number that stands for none
abbrev pub endless : ℕ
endless = 65535

-- a number in the memory as a position
unfoldable pub pos_of : ℕ → Pos
pos_of n = cond (ltb n endless) (at n) never

-- the entries that are not yet taken, from the cell k on
unfoldable pub left_from : List ℕ → ℕ → List Entry → Cells
left_from room k [] = []
left_from room k (x ∷ l) = cond (eqb (cell 2 room k) 0) (some x) none ∷ left_from room (suc k) l

-- the innermost first
unfoldable pub groups_in : List ℕ → ℕ → List Group
groups_in room zero = []
groups_in room (suc d) = group (pos_of (cell 2 room (groups_cell + 2 * d))) (pos_of (cell 2 room (groups_cell + 2 * d + 1))) ∷ groups_in room d

-- all of it
unfoldable pub matching_in : List Entry → List ℕ → Matching
matching_in l room =
    matching (left_from room 0 l) (pos_of (cell 2 room floor_cell)) (pos_of (cell 2 room bad_cell)) (groups_in room (cell 2 room depth_cell))

-- the word of the entry k
abbrev pub word_at : List Entry → ℕ → ℕ
word_at l k = (get_or l k (entry 0 0 0)).word

-- of the entries from some one on, r is the first of the word w; the number of entries where there is none
pub record Next (l : List Entry) (w from r : ℕ) : Type 0 where
  pub least : from ≤ r
  pub most : r ≤ length l
  pub passed : (k : ℕ) → from ≤ k → k < r → word_at l k ≡ w → ⊥
  pub found : r < length l → word_at l r ≡ w

-- r is an entry of the word w, or the number of entries; what is before it of that word is taken
pub record Reached (l : List Entry) (room : List ℕ) (w r : ℕ) : Type 0 where
  pub most : r ≤ length l
  pub passed : (k : ℕ) → k < r → word_at l k ≡ w → cell 2 room k ≡ 0 → ⊥
  pub found : r < length l → word_at l r ≡ w

-- numbers are in their ranges, and the entries of a word can be followed
pub record Sound (l : List Entry) (room : List ℕ) : Type 0 where
  pub few : length l ≤ most_entries
  pub long : room_size ≤ length room
  pub shallow : cell 2 room depth_cell ≤ most_groups
  pub next : (i : ℕ) → i < length l → word_at l i < most_words → Next l (word_at l i) (suc i) (cell 2 room (next_cell + i))
  pub first : (w : ℕ) → w < most_words → Reached l room w (cell 2 room (first_cell + w))

-- a matching stands in the memory
pub record Stands (l : List Entry) (room : List ℕ) (z : Matching) : Type 0 where
  pub sound : Sound l room
  pub is : matching_in l room ≡ z

-- the entries from i on are linked, and none of them is taken
pub record Linked (l : List Entry) (room : List ℕ) (i : ℕ) : Type 0 where
  pub few : length l ≤ most_entries
  pub long : room_size ≤ length room
  pub within : i ≤ length l
  pub clear : (k : ℕ) → i ≤ k → k < length l → cell 2 room k ≡ 0
  pub next : (k : ℕ) → i ≤ k → k < length l → word_at l k < most_words → Next l (word_at l k) (suc k) (cell 2 room (next_cell + k))
  pub first : (w : ℕ) → w < most_words → Next l w i (cell 2 room (first_cell + w))

-- so many words have v as their first entry, and the memory is as long as it was
pub record Filled (before after : List ℕ) (v words : ℕ) : Type 0 where
  pub long : length after ≡ length before
  pub each : (w : ℕ) → w < words → cell 2 after (first_cell + w) ≡ v
