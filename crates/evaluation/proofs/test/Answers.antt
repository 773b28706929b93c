-- `evaluation::test` meets its contract: the expression stands there.
-- Assumes nothing.
use native.Mathlib.Omega.{arith}
use Rattle.evaluation.specs.Laws.Tests.{test_small, test_at, test_answer}
use Rattle.evaluation.proofs.test.Goals as goal

pub overflow_add-n : goal.overflow_add-n
overflow_add-n c = omega (arith, test_small c.requires)

pub expression-requires : goal.expression-requires
expression-requires c = test_at c.requires

pub returns : goal.returns
returns c = λ v. test_answer v c.expression.result c.expression.ensures
