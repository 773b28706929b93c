-- `plain::labels::is_label` meets its contract.
-- Assumes nothing.
use mathlib.Core.Path.{ap₂}
use mathlib.Core.Bool.{◌&&◌}
use Prim.Native.Nat.{ℕ}
use lib.Dec.{eqb}
use Rattle.plain.proofs.labels.is_label.Goals as goal

pub returns : goal.returns
returns c = ap₂ (λ (m n : ℕ). eqb m 0 && eqb n 12) c.kind_at.ensures c.kind_at-2.ensures
