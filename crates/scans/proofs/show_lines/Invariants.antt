-- `scans::show_lines` is safe and ends: the buffers keep their lengths, and the lines come to their end.
-- Assumes nothing.
use Rattle.std.proofs.Common.{length, ◌-◌, ◌≡◌}
use Rattle.scans.proofs.show_lines.Given as goal

abbrev pub invariant-loop-from : goal.invariant-loop-from
invariant-loop-from l = (length l.records ≡ length l.initial.records) × (length l.values ≡ length l.initial.values)

abbrev pub decreases-loop-from : goal.decreases-loop-from
decreases-loop-from l = length l.lines - l.from
