-- `passing::meeting::close_all` meets its contract: so many are left to tell.
-- Assumes nothing.
use Prim.Native.Nat.{◌-◌}
use mathlib.Core.Path.{◌≡◌}
use lib.ListN.{length}
use Rattle.traces.specs.Cited.Events.{closes}
use Rattle.telling.specs.Cited.Passing.{times}
use Rattle.passing.specs.Laws.Telling.{Left}
use Rattle.passing.proofs.meeting.close_all.Given as goal

abbrev pub invariant-loop-k : goal.invariant-loop-k
invariant-loop-k l = Left l.initial.room (times l.count closes) l.room (times (l.count - l._k) closes) × (length l.room ≡ length l.initial.room)
