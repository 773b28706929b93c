-- `listing::names::put_run` meets its contract: what is appended and what is left make the run.
-- Assumes nothing.
use Prim.Native.Nat.{◌+◌, ◌-◌}
use Rattle.records.specs.Holds.{folded_at}
use Rattle.lines.specs.Laws.Appended.{Left}
use Rattle.listing.proofs.names.put_run.Given as goal

abbrev pub invariant-loop-k : goal.invariant-loop-k
invariant-loop-k l = Left l.initial.out l.out l.at l.next (folded_at l.text l.from l.n) (folded_at l.text (l.from + l.k) (l.n - l.k))
