-- `passing::meeting::meet` meets its contract: the rest of the way up is left to tell.
-- Assumes nothing.
use Prim.Native.Nat.{◌+◌, ◌-◌, ◌≤◌}
use mathlib.Core.Path.{◌≡◌}
use lib.ListN.{length}
use Rattle.rules.specs.Limits.{deepest}
use Rattle.members.specs.Cells.{cells_in}
use Rattle.passing.specs.Climbing.{meet_told}
use Rattle.passing.specs.Laws.Telling.{Left}
use Rattle.passing.proofs.meeting.meet.Given as goal

abbrev pub invariant-loop-k : goal.invariant-loop-k
invariant-loop-k l = Left l.initial.room (meet_told (cells_in l.cells l.n) l.depth l.from l.to l.entered) l.room (meet_told (cells_in l.cells l.n) (l.depth - l._k) l.x l.y l.count) × (length l.room ≡ length l.initial.room) × ((l.depth - l._k) + l.count ≤ deepest)
