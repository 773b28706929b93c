-- Where a walk stands, as it is kept: each frame in two cells of eight bytes.
use Rattle.std.specs.Prelude.{ℕ, ◌+◌, ◌*◌, ◌≤◌, ◌≡◌, List, [], ◌∷◌, length}
use Rattle.cells.specs.Cells.{cell}
use Rattle.rules.specs.Limits.{deepest}
use Rattle.bounds.specs.Cited.Counts.{endless}
use Rattle.counting.specs.Machine.{Frame, State}
use Rattle.counting.specs.declared.counts.Nest.{Nest}

-- the bytes that are needed
abbrev pub enough : ℕ
enough = 512

-- the frame number j, from the outermost on
pub record FrameAt (room : List ℕ) (j : ℕ) (f : Frame) : Type 0 where
  pub base : cell 8 room (2 * j) ≡ f.base
  pub base_low : f.base ≤ endless
  pub best : cell 8 room (2 * j + 1) ≡ f.best
  pub best_low : f.best ≤ endless

pub data Frames (room : List ℕ) : List Frame → Type 0 where
  no_frames : Frames room []
  frames : {f : Frame} {fs : List Frame} → FrameAt room (length fs) f → Frames room fs → Frames room (f ∷ fs)

pub record Shows (room : List ℕ) (x : Nest) (z : State) : Type 0 where
  pub space : enough ≤ length room
  pub depth_is : x.depth ≡ length z.frames
  pub shallow : x.depth ≤ deepest
  pub count_is : x.count ≡ z.count
  pub low : x.count ≤ endless
  pub frames : Frames room z.frames

-- it shows some state
abbrev pub Standing : List ℕ → Nest → Type 0
Standing room x = (z : State) × Shows room x z

-- what is done to the state that it shows
abbrev pub Does : (State → State) → List ℕ → Nest → List ℕ → Nest → Type 0
Does f old x new y = (z : State) → Shows old x z → Shows new y (f z)
