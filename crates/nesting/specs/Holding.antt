-- Where a walk stands, as it is kept: the flags, the frames of the open BEGINs, the labels around it, of each its token and its flag, and hints, one for each
-- spelling: of the labels with a spelling none stands above the one that the hint leads to.
use Rattle.std.specs.Prelude.{ℕ, suc, ◌+◌, ◌-◌, ◌<◌, ◌≤◌, ◌≡◌, Bool, true, false, cond, ◌&&◌, min, List, [], ◌∷◌, eqb, length, Option, Some, None}
use Rattle.cells.specs.Cells.{cell, put_cell}
use Rattle.rules.specs.Grammar.Trees.{Tokens}
use Rattle.rules.specs.Limits.{deepest, most_tokens}
use Rattle.room.specs.Profile.{most_flags, labels_from, hints_from, frame_cell, label_cell, hint_cell, room_size}
use Rattle.paths.specs.Cited.Marks.{Marks, Slot}
use Rattle.paths.specs.Cited.Least.{least}
use Rattle.records.specs.Holds.{link_cell}
use Rattle.records.specs.Words.{NameAt, word_at}
use Rattle.nesting.specs.Machine.{Frame, Dest, idle, parts, State}
use Rattle.nesting.specs.declared.nests.Destination.{Destination}
use Rattle.nesting.specs.declared.nests.Nest.{Nest}
use Rattle.nesting.specs.declared.frames.Frame.{Frame as Kept-frame}

-- above all places
abbrev pub unseen : ℕ
unseen = 65535

abbrev pub bit : Bool → ℕ
bit true = 1
bit false = 0

-- tokens, and the spellings of those that are names
pub record Book : Type 0 where
  pub tokens : Tokens
  pub spelling : ℕ → ℕ

abbrev pub book : List ℕ → Tokens → Book
book records ts = record { tokens = ts; spelling = link_cell records }

-- only the cells from a up to b differ
pub record Kept (old new : List ℕ) (a b : ℕ) : Type 0 where
  pub size : length new ≡ length old
  pub same : (j : ℕ) → (a ≤ j → j < b → ⊥) → cell 2 new j ≡ cell 2 old j

-- p labels, the innermost last
pub data Linked (ts : Book) (room : List ℕ) : ℕ → List Slot → Type 0 where
  unlinked : Linked ts room 0 []
  linked : {p : ℕ} {l : Slot} {ls : List Slot} → NameAt ts.tokens (cell 2 room (label_cell p)) → word_at ts.tokens (cell 2 room (label_cell p)) ≡ l.name
      → cell 2 room (label_cell p + 1) ≡ l.flag → l.flag < most_flags → p ≤ cell 2 room (hint_cell (ts.spelling (cell 2 room (label_cell p))))
      → Linked ts room p ls → Linked ts room (suc p) (l ∷ ls)

-- the first `top` labels are the same, and no hint leads below one of them where it did not before
pub record Still (old new : List ℕ) (top : ℕ) : Type 0 where
  pub cells : (q : ℕ) → labels_from ≤ q → q < label_cell top → cell 2 new q ≡ cell 2 old q
  pub hints : (m c : ℕ) → m < top → hints_from ≤ c → m ≤ cell 2 old c → m ≤ cell 2 new c

-- the label number j is put, and its hint
pub record LabelPut (records old new : List ℕ) (j i flag : ℕ) : Type 0 where
  pub size : length new ≡ length old
  pub low : (q : ℕ) → q < labels_from → cell 2 new q ≡ cell 2 old q
  pub still : Still old new j
  pub token : cell 2 new (label_cell j) ≡ i
  pub flag_is : cell 2 new (label_cell j + 1) ≡ flag
  pub hint : cell 2 new (hint_cell (link_cell records i)) ≡ j

-- the frame number j, from the outermost on, with at most so many labels around it
pub record FrameAt (ts : Book) (room : List ℕ) (top j : ℕ) (f : Frame) : Type 0 where
  pub below : cell 2 room (frame_cell j) ≤ top
  pub labels : Linked ts room (cell 2 room (frame_cell j)) f.labels
  pub flag : cell 2 room (frame_cell j + 1) ≡ f.flag
  pub flag_low : f.flag < most_flags
  pub own : cell 2 room (frame_cell j + 2) ≡ f.own
  pub own_low : f.own ≤ j + 2
  pub comes : cell 2 room (frame_cell j + 3) ≡ bit f.comes
  pub ended : cell 2 room (frame_cell j + 4) ≡ bit f.ended
  pub group : cell 2 room (frame_cell j + 5) ≡ bit f.group

-- no frame has more labels around it than those inside it
pub data Frames (ts : Book) (room : List ℕ) : ℕ → List Frame → Type 0 where
  no_frames : {top : ℕ} → Frames ts room top []
  frames : {top : ℕ} {f : Frame} {fs : List Frame} → FrameAt ts room top (length fs) f → Frames ts room (cell 2 room (frame_cell (length fs))) fs
      → Frames ts room top (f ∷ fs)

pub record Flagged (room : List ℕ) (w : Marks) : Type 0 where
  pub at : (j : ℕ) → j < most_flags → cell 2 room j ≡ bit (w.flags j)

-- a destination as it is kept, if it has begun
abbrev pub dest_of : Option Destination → Dest
dest_of None = idle
dest_of (Some d) = parts d.place d.hit

-- the lowest place once the destination is written
abbrev pub low_behind : Nest → ℕ
low_behind x = cond (x.comes && (dest_of x.destination).hit) (min x.low (dest_of x.destination).place) x.low

pub record Shows (ts : Book) (room : List ℕ) (i : ℕ) (x : Nest) (z : State) : Type 0 where
  pub space : room_size ≤ length room
  pub few : i ≤ most_tokens
  pub depth_is : x.depth ≡ length z.frames
  pub shallow : x.depth ≤ deepest
  pub free_is : x.free ≡ z.free
  pub free_low : x.free ≤ x.depth + 2
  pub label_low : x.label ≤ i
  pub labels : Linked ts room x.label z.labels
  pub flag_is : x.flag ≡ z.flag
  pub flag_low : x.flag < most_flags
  pub comes_is : x.comes ≡ z.comes
  pub choosing_is : x.choosing ≡ z.choosing
  pub dest_is : dest_of x.destination ≡ z.dest
  pub place_low : (dest_of x.destination).place < unseen
  pub low_is : x.low ≡ least unseen z.marks.places
  pub frames : Frames ts room x.label z.frames
  pub flags : Flagged room z.marks

-- it shows some state
abbrev pub Standing : List ℕ → Nest → Type 0
Standing room x = (ts : Book) × (i : ℕ) × (z : State) × Shows ts room i x z

-- what is done to the state that it shows
abbrev pub Does : (State → State) → List ℕ → Nest → List ℕ → Nest → Type 0
Does f old x new y = (ts : Book) (i : ℕ) (z : State) → Shows ts old i x z → Shows ts new i y (f z)

-- a flag is set if b
pub record Set (old new : List ℕ) (k : ℕ) (b : Bool) : Type 0 where
  pub size : length new ≡ length old
  pub is : b ≡ true → cell 2 new k ≡ 1
  pub same : (j : ℕ) → (j ≡ k → b ≡ true → ⊥) → cell 2 new j ≡ cell 2 old j

-- a flag is read, and cleared
pub record Taken (old new : List ℕ) (k : ℕ) (b : Bool) : Type 0 where
  pub was : b ≡ eqb (cell 2 old k) 1
  pub put : new ≡ put_cell 2 old k 0

-- the six cells of the innermost frame, with depth frames
pub record Top (room : List ℕ) (depth : ℕ) (f : Kept-frame) : Type 0 where
  pub label : f.label ≡ cell 2 room (frame_cell (depth - 1))
  pub flag : f.flag ≡ cell 2 room (frame_cell (depth - 1) + 1)
  pub own : f.own ≡ cell 2 room (frame_cell (depth - 1) + 2)
  pub comes : f.comes ≡ eqb (cell 2 room (frame_cell (depth - 1) + 3)) 1
  pub ended : f.ended ≡ eqb (cell 2 room (frame_cell (depth - 1) + 4)) 1
  pub group : f.group ≡ eqb (cell 2 room (frame_cell (depth - 1) + 5)) 1

-- the frame number j is written
pub record Pushed (old new : List ℕ) (j : ℕ) (f : Kept-frame) : Type 0 where
  pub kept : Kept old new (frame_cell j) (frame_cell j + 6)
  pub label : cell 2 new (frame_cell j) ≡ f.label
  pub flag : cell 2 new (frame_cell j + 1) ≡ f.flag
  pub own : cell 2 new (frame_cell j + 2) ≡ f.own
  pub comes : cell 2 new (frame_cell j + 3) ≡ bit f.comes
  pub ended : cell 2 new (frame_cell j + 4) ≡ bit f.ended
  pub group : cell 2 new (frame_cell j + 5) ≡ bit f.group
