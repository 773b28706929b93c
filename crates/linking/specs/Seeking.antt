-- The first entry of a word that is not yet taken.
use Rattle.std.specs.Prelude.{ℕ, ◌<◌, ◌≤◌, ◌≡◌, List, length, get_or}
use Rattle.std.proofs.Math.Option.{Option, none, some}
use Rattle.cells.specs.Cells.{cell}
use Rattle.rules.specs.Stores.{Entry}
use Rattle.traces.specs.Cited.Marking.{Cells}
use Rattle.matching.specs.Room.{matching_in, Reached, Stands}

abbrev pub OfWord : ℕ → Option Entry → Type 0
OfWord w none = ⊥
OfWord w (some y) = y.word ≡ w

-- r is the first; or the number of entries where there is none
pub record Sought (w : ℕ) (cs : Cells) (r : ℕ) : Type 0 where
  pub most : r ≤ length cs
  pub passed : (k : ℕ) → k < r → OfWord w (get_or cs k none) → ⊥
  pub found : r < length cs → OfWord w (get_or cs r none)

-- what the search finds; it leaves the matching as it was
pub record Seeks (l : List Entry) (before after : List ℕ) (w r : ℕ) : Type 0 where
  pub stands : Stands l after (matching_in l before)
  pub sought : Sought w (matching_in l before).cells r

-- r is reached, and it is not taken
pub record Reaches (l : List Entry) (room : List ℕ) (w r : ℕ) : Type 0 where
  pub reached : Reached l room w r
  pub untaken : r < length l → cell 2 room r ≡ 0
