-- `linking::beginning::link_all` meets its contract: the entries passed are linked.
-- Assumes nothing.
use mathlib.Core.Path.{◌≡◌}
use lib.ListN.{length}
use Rattle.rules.specs.Entries.{entries_in}
use Rattle.matching.specs.Room.{Linked}
use Rattle.linking.proofs.beginning.link_all.Given as goal

abbrev pub invariant-loop-i : goal.invariant-loop-i
invariant-loop-i l = Linked (entries_in l.entries) l.room l.i × (length l.room ≡ length l.initial.room)
