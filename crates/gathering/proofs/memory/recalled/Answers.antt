-- `gathering::memory::recalled` meets its contract.
use mathlib.Core.Path.{ap}
use Prim.Native.Nat.{ℕ}
use lib.Dec.{eqb}
use Rattle.gathering.proofs.memory.recalled.Goals as goal

pub returns : goal.returns
returns c = (c.set_at.ensures, (c.set_at-2.ensures, ap (λ (x : ℕ). eqb x 2) c.mark_in.ensures))
