-- The test of an IF or a DECODE: an expression behind the keyword.
use Rattle.std.specs.Prelude.{ℕ, ◌+◌, List, Result}
use Rattle.rules.specs.Grammar.Precedence.{Expr}
use Rattle.promise.specs.Instructions.{ExpressionStands}
use Rattle.operands.specs.declared.accesses.Outside.{Outside}
use Rattle.operands.specs.declared.expressions.Value.{Value as Worked}
use Rattle.operands.specs.Scene.{Scene}
use Rattle.evaluation.specs.Standing.{Stood}

-- an expression stands from the token behind n up to the token `behind`
pub record TestAt (records values carriers : List ℕ) (n : ℕ) : Type 0 where
  pub scene : Scene records values carriers
  pub behind : ℕ
  pub expression : Expr
  pub stands : ExpressionStands scene.tokens scene.outer scene.table (n + 1) behind expression

abbrev pub TestAnswer : {records values carriers : List ℕ} {n : ℕ} → TestAt records values carriers n → Result Worked Outside → Type 0
TestAnswer v r = Stood v.scene v.behind v.expression r
