-- What the frames' functions hand to each other.
use Rattle.std.specs.Prelude.{ℕ, ◌+◌, ◌-◌, ◌<◌, ◌≤◌, ◌≡◌, Bool, false, List, length, Option, None}
use Rattle.cells.specs.Cells.{cell}
use Rattle.nesting.specs.Holding.{Kept, Pushed}
use Rattle.room.specs.Profile.{room_size}
use Rattle.nesting.specs.declared.nests.Destination.{Destination}
use Rattle.nesting.specs.declared.nests.Nest.{Nest}
use Rattle.nesting.specs.declared.frames.Frame.{Frame}

abbrev pub nest : ℕ → ℕ → ℕ → ℕ → Bool → Bool → Option Destination → ℕ → Nest
nest d f l k c g o w = record { depth = d; free = f; label = l; flag = k; comes = c; choosing = g; destination = o; low = w }

abbrev pub kept : ℕ → ℕ → ℕ → Bool → Bool → Bool → Frame
kept l k d b c g = record { label = l; flag = k; own = d; comes = b; ended = c; group = g }

abbrev pub settle : ℕ → ℕ → ℕ → ℕ → Nest
settle d f l w = nest d f l 0 false false None w

-- behind a BEGIN
abbrev pub enter : Nest → ℕ → ℕ → Nest
enter s f k = nest (s.depth + 1) f s.label k s.comes false None s.low

-- three cells are put
pub record Three (old new : List ℕ) (at a b c : ℕ) : Type 0 where
  pub kept : Kept old new at (at + 3)
  pub first : cell 2 new at ≡ a
  pub second : cell 2 new (at + 1) ≡ b
  pub third : cell 2 new (at + 2) ≡ c

-- a member begins in a frame
abbrev pub resumed : Nest → Frame → Bool → Nest
resumed s f b = nest s.depth s.free f.label f.own b false None s.low

pub record Resuming (room : List ℕ) (s : Nest) (f : Frame) : Type 0 where
  pub inside : 0 < s.depth
  pub shallow : s.depth ≤ 32
  pub space : room_size ≤ length room
  pub label_fits : f.label < 65536
  pub flag_fits : f.flag < 65536
  pub own_fits : f.own < 65536

pub record Resumed (old new : List ℕ) (s : Nest) (f : Frame) (b c : Bool) (r : Nest) : Type 0 where
  pub pushed : Pushed old new (s.depth - 1) (kept f.label f.flag f.own b c f.group)
  pub is : r ≡ resumed s f b
