-- `why::activations::put_bodies` meets its contract: a body takes at most 40 bytes.
-- Assumes nothing.
use Prim.Native.Nat.{◌+◌, ◌*◌, ◌≤◌}
use mathlib.Core.Path.{◌≡◌}
use lib.ListN.{length}
use Rattle.why.proofs.activations.put_bodies.Given as goal

abbrev pub invariant-loop-i : goal.invariant-loop-i
invariant-loop-i l = (length l.out ≡ length l.initial.out) × ((l.next ≤ l.at + 40 * l.i) × (l.i ≤ l.n))
