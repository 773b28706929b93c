-- `storing::parts::store_all` meets its contract: a turn stores and tells the next part.
-- Assumes nothing.
use mathlib.Core.Path.{◌≡◌}
use lib.ListN.{length}
use Rattle.rules.specs.Entries.{entries_in}
use Rattle.evaluation.specs.Stores.{StoresAt}
use Rattle.storing.specs.Laws.Parts.{Telling}
use Rattle.storing.proofs.parts.store_all.Given as goal

abbrev pub invariant-loop-k : goal.invariant-loop-k
invariant-loop-k l = ((s : StoresAt l.initial.carriers l.fields l.count l.bits) → Telling s l.place l.v (entries_in l.entries) l.initial.room l.room l.carriers l.k l.rest) × (length l.room ≡ length l.initial.room)
