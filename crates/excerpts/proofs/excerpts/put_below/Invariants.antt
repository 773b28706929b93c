-- `excerpts::excerpts::put_below` meets its contract: a byte is written for each of the text, and there are at most 80.
-- Assumes nothing.
use Prim.Native.Nat.{◌+◌, ◌≤◌}
use mathlib.Core.Path.{◌≡◌}
use lib.ListN.{length}
use Rattle.excerpts.proofs.excerpts.put_below.Given as goal

abbrev pub invariant-loop-k : goal.invariant-loop-k
invariant-loop-k l = (length l.out ≡ length l.initial.out) × ((l.next + l.from ≡ l.at + l.k) × (l.k ≤ l.from + 80))
