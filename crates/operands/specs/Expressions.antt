-- An expression of two operands, and the chain of more.
use Rattle.std.specs.Prelude.{ℕ, ◌<◌, ◌≤◌, max, ◌≡◌, true, List, ◌∷◌, drop, Result}
use Rattle.rules.specs.Text.Tokens.{Info, Token, tk, Op, op_kind, kind_no}
use Rattle.rules.specs.Grammar.Trees.{Tokens, Operand, operand_tokens, Tail, with_op, tail_tokens}
use Rattle.rules.specs.Grammar.Precedence.{factor_of, expr_of}
use Rattle.rules.specs.Values.{value}
use Rattle.rules.specs.Steps.Evaluation.{gives, evaluate, evaluate_factor}
use Rattle.laws_grammar.specs.Cited.Nesting.{operand_nest, tail_nest}
use Rattle.laws_accepted.specs.Cited.Lengths.{Sized}
use Rattle.operands.specs.declared.accesses.Outside.{Outside}
use Rattle.operands.specs.declared.expressions.Value.{Value as Worked}
use Rattle.table.specs.Operators.{ends_expression}
use Rattle.operands.specs.Scene.{Scene, words_of, Answers}
use Rattle.operands.specs.Chains.{TailAt}

-- the operator at, with its left operand a of m bits worked out, and more of a chain
pub record PairAt (records values carriers : List ℕ) (a m at depth : ℕ) : Type 0 where
  pub scene : Scene records values carriers
  pub first : Operand
  pub op : Op
  pub info : Info
  pub right : Operand
  pub more : Tail
  pub next : Token
  pub rest : Tokens
  pub reads : drop at scene.tokens ≡ tk (op_kind op) info ∷ operand_tokens right (tail_tokens more (next ∷ rest))
  pub ends : ends_expression next.kind ≡ true
  pub shallow : max (operand_nest right) (tail_nest more) ≤ depth
  pub sized : Sized scene.outer scene.table (expr_of first (with_op op info right more))
  pub left : evaluate_factor scene.table (words_of scene) (factor_of first) ≡ gives (value m a)

abbrev pub PairAnswer : {records values carriers : List ℕ} {a m at depth : ℕ} → PairAt records values carriers a m at depth → Result Worked Outside → Type 0
PairAnswer {at = at} v r =
    Answers v.scene.tokens (v.next ∷ v.rest) at
    (evaluate v.scene.table (words_of v.scene) (expr_of v.first (with_op v.op v.info v.right v.more))) r

-- the operator of the kind k waits, with its left operand a of m bits; its right one is b, of n bits; and more of a chain stands from p on, behind `start`
pub record ChainAt (records values carriers : List ℕ) (k a m b n p depth : ℕ) : Type 0 where
  pub scene : Scene records values carriers
  pub first : Operand
  pub op : Op
  pub info : Info
  pub right : Operand
  pub behind : TailAt scene p
  pub start : ℕ
  pub before : start < p
  pub kind : k ≡ kind_no (op_kind op)
  pub shallow : tail_nest behind.tail ≤ depth
  pub sized : Sized scene.outer scene.table (expr_of first (with_op op info right behind.tail))
  pub left : evaluate_factor scene.table (words_of scene) (factor_of first) ≡ gives (value m a)
  pub known : evaluate_factor scene.table (words_of scene) (factor_of right) ≡ gives (value n b)

abbrev pub ChainAnswer : {records values carriers : List ℕ} {k a m b n p depth : ℕ} → ChainAt records values carriers k a m b n p depth → Result Worked Outside → Type 0
ChainAnswer v r =
    Answers v.scene.tokens (v.behind.next ∷ v.behind.rest) v.start
    (evaluate v.scene.table (words_of v.scene) (expr_of v.first (with_op v.op v.info v.right v.behind.tail))) r
