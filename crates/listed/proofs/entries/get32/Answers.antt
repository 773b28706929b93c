-- `listed::entries::get32` meets its contract: two halves of a number.
-- Assumes nothing.
use mathlib.Core.Path.{◌∙◌, ap₂}
use Prim.Native.Nat.{ℕ, ◌+◌, ◌*◌}
use Rattle.listed.specs.Laws.Entries.{two_halves}
use Rattle.listed.proofs.entries.get32.Goals as goal

pub returns : goal.returns
returns c = ap₂ (λ (x y : ℕ). x + 65536 * y) c.get16.ensures c.get16-2.ensures ∙ two_halves _ _
