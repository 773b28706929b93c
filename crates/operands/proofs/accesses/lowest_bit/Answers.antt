-- `operands::accesses::lowest_bit` meets its contract: the third byte of the cell.
-- Assumes nothing.
use native.Mathlib.Omega.{arith}
use Prim.Native.Nat.{◌+◌, ◌*◌}
use Rattle.operands.specs.Laws.Cells.{low_byte}
use Rattle.operands.proofs.accesses.lowest_bit.Goals as goal

pub overflow_cast-result : goal.overflow_cast-result
overflow_cast-result c = omega (arith, c.shared_slice_known-1.given (8 * c.args.i + 2))

pub returns : goal.returns
returns c = low_byte _ (λ k. omega (arith, c.shared_slice_known-1.given k)) _
