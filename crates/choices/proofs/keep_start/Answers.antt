-- `choices::keep_start` meets its contract.
-- Assumes nothing.
use borrow.Author.Tests.{lt-ltb, le-ltb}
use mathlib.Core.Path.{◌≡◌}
use mathlib.Core.List.{List}
use Prim.Native.Nat.{ℕ, ◌<◌, ◌≤◌}
use Rattle.cells.specs.Cells.{put_cell}
use Rattle.choices.specs.Choices.{start_cell, with_start}
use Rattle.choices.proofs.keep_start.Goals as goal

kept : (room after : List ℕ) (depth number at : ℕ) → number < 64 → after ≡ put_cell 2 room (start_cell depth number) at → after ≡ with_start room depth number at
kept room after depth number at l e = rw (with_start, lt-ltb number 64 l) e

not_kept : (room : List ℕ) (depth number at : ℕ) → 64 ≤ number → room ≡ with_start room depth number at
not_kept room depth number at l = rw (with_start, le-ltb number 64 l)

pub returns-then-number-lt-STARTS_SIZE : goal.returns-then-number-lt-STARTS_SIZE
returns-then-number-lt-STARTS_SIZE c = kept _ _ _ _ _ c.if-number-lt-STARTS_SIZE.true c.put16.ensures

pub returns-else-number-lt-STARTS_SIZE : goal.returns-else-number-lt-STARTS_SIZE
returns-else-number-lt-STARTS_SIZE c = not_kept _ _ _ _ c.if-number-lt-STARTS_SIZE.false
