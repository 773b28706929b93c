-- `operands::accesses::bit_count` meets its contract: the fourth byte of the cell.
-- Assumes nothing.
use native.Mathlib.Omega.{arith}
use Prim.Native.Nat.{◌+◌, ◌*◌}
use Rattle.operands.specs.Laws.Cells.{count_byte}
use Rattle.operands.proofs.accesses.bit_count.Goals as goal

pub overflow_cast-result : goal.overflow_cast-result
overflow_cast-result c = omega (arith, c.shared_slice_known-1.given (8 * c.args.i + 3))

pub returns : goal.returns
returns c = count_byte _ (λ k. omega (arith, c.shared_slice_known-1.given k)) _
