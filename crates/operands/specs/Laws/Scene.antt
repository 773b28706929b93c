-- What is told of an expression, an operand and an access by those that hold.
use Rattle.std.specs.Prelude.{ℕ, List, Result}
use Rattle.operands.specs.declared.accesses.Field.{Field as Located}
use Rattle.operands.specs.declared.accesses.Outside.{Outside}
use Rattle.operands.specs.declared.expressions.Value.{Value as Worked}
use Rattle.operands.specs.Scene.{ExpressionAt, ExpressionAnswer, OperandAt, OperandAnswer, AccessAt, AccessAnswer}

-- what a call tells, of whatever stands there
module _ (records values carriers : List ℕ) (i depth : ℕ) where
  abbrev pub ExpressionTold : Result Worked Outside → Type 0
  ExpressionTold r = (v : ExpressionAt records values carriers i depth) → ExpressionAnswer v r

  abbrev pub OperandTold : Result Worked Outside → Type 0
  OperandTold r = (v : OperandAt records values carriers i depth) → OperandAnswer v r

  abbrev pub AccessTold : Result Located Outside → Type 0
  AccessTold r = (v : AccessAt records values carriers i depth) → AccessAnswer v r
