-- `evaluation::transfers::gather` meets its contract: a turn adds the next field.
-- Assumes nothing.
use mathlib.Core.Path.{◌≡◌}
use Prim.Native.Nat.{◌-◌}
use lib.ListN.{length}
use Rattle.evaluation.specs.Gathering.{GatherAt}
use Rattle.evaluation.specs.Laws.Gathering.{Gathering}
use Rattle.evaluation.proofs.transfers.gather.Given as goal

abbrev pub invariant-loop-at : goal.invariant-loop-at
invariant-loop-at l = ((v : GatherAt l.records l.values l.carriers l.fn.first.word l.fn.first.low l.fn.first.size l.fn.first.next l.end) → Gathering v l.fields l.count l.bits l.at) × (length l.fields ≡ length l.initial.fields)

abbrev pub decreases-loop-at : goal.decreases-loop-at
decreases-loop-at l = length l.records - l.at
