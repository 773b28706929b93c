-- Hints of where labels stand. They take no cell of the labels and of the scopes.
use Rattle.std.specs.Prelude.{ℕ, ◌<◌, ◌≡◌, List, length}
use Rattle.cells.specs.Cells.{cell}
use Rattle.room.specs.Whole.{scopes_end}

-- a hint is put
pub record Hinting (old new : List ℕ) : Type 0 where
  pub size : length new ≡ length old
  pub kept : (j : ℕ) → j < scopes_end → cell 2 new j ≡ cell 2 old j
