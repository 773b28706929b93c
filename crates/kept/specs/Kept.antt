-- What Store and Load come to: an ending that the rules allow, and the buffer that they may write.
use Rattle.std.specs.Prelude.{ℕ, ◌<◌, ◌≡◌, List, length, ⊤, Ok, Err}
use Rattle.rules.specs.Declarations.{Table}
use Rattle.rules.specs.Images.{image_of, image_size_of, held_in}
use Rattle.rules.specs.Keeping.{Kept, declined, kept, refused_or, fault61, Keeps, kept_in}
use Rattle.rules.specs.Refusals.{refusal_at, OrRefused}

-- an ending, with the bytes that are left
abbrev pub kept_of : OrRefused ⊤ → List ℕ → Kept
kept_of (Err r) left = declined r.number r.place
kept_of (Ok u) left = kept left

-- a place is small
abbrev pub Near : OrRefused ⊤ → Type 0
Near (Err r) = r.place < 65536
Near (Ok u) = Unit {0}

pub record Keeping (x : Kept) (target left : List ℕ) (r : OrRefused ⊤) : Type 0 where
  pub is : kept_of r left ≡ x
  pub left_is : left ≡ kept_in target x
  pub near : Near r

-- an image is written, unless its length is wrong
pub data Written (carriers image left : List ℕ) : OrRefused ⊤ → Type 0 where
  wrong_length : (length image ≡ image_size_of (length carriers) → ⊥) → left ≡ image → Written carriers image left (Err (refusal_at 62 0))
  written : length image ≡ image_size_of (length carriers) → left ≡ image_of carriers → Written carriers image left (Ok tt)

-- the words of a sound image are judged
pub record Taken (ds : Table) (image carriers left : List ℕ) (r : OrRefused ⊤) : Type 0 where
  pub taken : Keeping (refused_or (fault61 ds (held_in (length carriers) image)) (kept (held_in (length carriers) image))) carriers left r

-- the whole answer
pub record Answered (text : List ℕ) (call : Table → Kept) (target left : List ℕ) (r : OrRefused ⊤) : Type 0 where
  pub result : Kept
  pub keeps : Keeps text call result
  pub keeping : Keeping result target left r
