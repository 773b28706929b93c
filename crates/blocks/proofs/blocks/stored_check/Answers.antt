-- `blocks::blocks::stored_check` meets its contract: two halves of a number.
-- Assumes nothing.
use mathlib.Core.Path.{◌∙◌, ap₂}
use Prim.Native.Nat.{ℕ, ◌+◌, ◌*◌}
use Rattle.blocks.specs.Laws.Puts.{check_read}
use Rattle.blocks.proofs.blocks.stored_check.Goals as goal

pub returns : goal.returns
returns c = ap₂ (λ (x y : ℕ). x + 65536 * y) c.get16.ensures c.get16-2.ensures ∙ check_read c.args.block.now
