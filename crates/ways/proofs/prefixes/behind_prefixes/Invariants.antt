-- `ways::prefixes::behind_prefixes` meets its contract: one after the other.
-- Assumes nothing.
use Prim.Native.Nat.{◌-◌}
use lib.ListN.{length}
use Rattle.ways.specs.Laws.Prefixes.{Walking}
use Rattle.ways.proofs.prefixes.behind_prefixes.Given as goal

abbrev pub invariant-loop-records : goal.invariant-loop-records
invariant-loop-records l = Walking l.initial.records l.initial.labels l.initial.s.at l.initial.s.link l.initial.s.count l.initial.s.first l.records l.labels l.s.at l.s.link l.s.count l.s.first

abbrev pub decreases-loop-records : goal.decreases-loop-records
decreases-loop-records l = length l.records - l.s.at
