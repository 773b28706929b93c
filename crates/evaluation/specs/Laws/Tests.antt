-- Laws of the test of an IF or a DECODE.
-- Assumes nothing.
use Rattle.std.specs.Prelude.{ℕ, ◌+◌, ◌<◌, List, Result}
use Rattle.rules.specs.Limits.{deepest, most_tokens}
use Rattle.operands.specs.declared.accesses.Outside.{Outside}
use Rattle.operands.specs.declared.expressions.Value.{Value as Worked}
use Rattle.operands.specs.Scene.{ExpressionAt}
use Rattle.operands.specs.Laws.Scene.{ExpressionTold}
use Rattle.evaluation.specs.Laws.Standing.{expression_at, expression_stood, expression_small}
use Rattle.evaluation.specs.Tests.{TestAt, TestAnswer}

module _ {records values carriers : List ℕ} {n : ℕ} (v : TestAt records values carriers n) where
  pub test_small : n + 1 < most_tokens
  test_small = expression_small v.scene (n + 1) v.behind v.expression v.stands

  pub test_at : ExpressionAt records values carriers (n + 1) deepest
  test_at = expression_at v.scene (n + 1) v.behind v.expression v.stands

  pub test_answer : (r : Result Worked Outside) → ExpressionTold records values carriers (n + 1) deepest r → TestAnswer v r
  unfolding test_at
  test_answer r f = expression_stood v.scene (n + 1) v.behind v.expression v.stands r (f test_at)
