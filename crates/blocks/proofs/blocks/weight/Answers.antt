-- `blocks::blocks::weight` meets its contract: the weight is small.
-- Assumes nothing.
use borrow.Author.Rules.{rules}
use native.Mathlib.Omega.{arith}
use Rattle.blocks.specs.Laws.Sums.{weight_bounded}
use Rattle.blocks.proofs.blocks.weight.Goals as goal

pub overflow_mul-result : goal.overflow_mul-result
overflow_mul-result c = omega (arith, weight_bounded c.args.byte c.args.position (omega arith) (omega arith))

pub returns : goal.returns
returns c = search (rules, weight_bounded)
