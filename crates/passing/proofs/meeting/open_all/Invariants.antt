-- `passing::meeting::open_all` meets its contract: so many are left to tell.
-- Assumes nothing.
use Prim.Native.Nat.{◌-◌}
use mathlib.Core.Path.{◌≡◌}
use lib.ListN.{length}
use Rattle.traces.specs.Cited.Events.{opens}
use Rattle.telling.specs.Cited.Passing.{times}
use Rattle.passing.specs.Laws.Telling.{Left}
use Rattle.passing.proofs.meeting.open_all.Given as goal

abbrev pub invariant-loop-k : goal.invariant-loop-k
invariant-loop-k l = Left l.initial.room (times l.count opens) l.room (times (l.count - l._k) opens) × (length l.room ≡ length l.initial.room)
