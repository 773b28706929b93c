-- Where a walk stands, as it is kept: each frame in two cells of two bytes.
use Rattle.std.specs.Prelude.{ℕ, ◌+◌, ◌*◌, ◌<◌, ◌≤◌, ◌≡◌, Bool, List, [], ◌∷◌, length}
use Rattle.cells.specs.Cells.{cell}
use Rattle.rules.specs.Limits.{deepest}
use Rattle.telling.specs.Cited.Cells.{inner}
use Rattle.marking.specs.Machine.{Frame, State, ranked}
use Rattle.marking.specs.declared.frames.Nest.{Nest}

-- the pair of cells number k is put, and those before it stay
pub record Paired (old new : List ℕ) (k x y : ℕ) : Type 0 where
  pub size : length new ≡ length old
  pub first : cell 2 new (2 * k) ≡ x
  pub second : cell 2 new (2 * k + 1) ≡ y
  pub kept : (j : ℕ) → j < 2 * k → cell 2 new j ≡ cell 2 old j

abbrev pub nest : ℕ → ℕ → ℕ → ℕ → Nest
nest d x r u = record { depth = d; around = x; rank = r; up = u }

-- in front of a token that begins no member
abbrev pub within : ℕ → ℕ → Nest
within d x = nest d x 0 x

-- in front of the token p, which begins an action of a block
pub record Enters (depth outer before p : ℕ) (more : Bool) (r : Nest) : Type 0 where
  pub depth_is : r.depth ≡ depth
  pub around_is : r.around ≡ inner outer p before more
  pub rank_is : r.rank ≡ ranked before more
  pub up_is : r.up ≡ outer

-- the bytes of the frames
abbrev pub enough : ℕ
enough = 128

-- the frame number j, from the outermost on, in front of the token i: no more members come before a token than tokens
pub record FrameAt (room : List ℕ) (i j : ℕ) (f : Frame) : Type 0 where
  pub outer : cell 2 room (2 * j) ≡ f.outer
  pub outer_low : f.outer < 65536
  pub before : cell 2 room (2 * j + 1) ≡ f.before
  pub before_low : f.before ≤ i

pub data Frames (room : List ℕ) (i : ℕ) : List Frame → Type 0 where
  no_frames : Frames room i []
  frames : {f : Frame} {fs : List Frame} → FrameAt room i (length fs) f → Frames room i fs → Frames room i (f ∷ fs)

pub record Shows (room : List ℕ) (i : ℕ) (x : Nest) (z : State) : Type 0 where
  pub space : enough ≤ length room
  pub depth_is : x.depth ≡ length z.frames
  pub shallow : x.depth ≤ deepest
  pub around_is : x.around ≡ z.around
  pub around_low : x.around < 65536
  pub rank_is : x.rank ≡ z.rank
  pub rank_low : x.rank < 65536
  pub up_is : x.up ≡ z.up
  pub up_low : x.up < 65536
  pub frames : Frames room i z.frames

-- it shows some state
abbrev pub Standing : List ℕ → ℕ → Nest → Type 0
Standing room i x = (z : State) × Shows room i x z

-- what the token i does to the state that is shown in front of it
abbrev pub Does : ℕ → (State → State) → List ℕ → Nest → List ℕ → Nest → Type 0
Does i f old x new y = (z : State) → Shows old i x z → Shows new (i + 1) y (f z)
