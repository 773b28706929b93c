-- An expression, an operand and an access that stand in the tables, and what is answered of them.
use Rattle.std.specs.Prelude.{ℕ, ◌≤◌, max, ◌≡◌, true, List, ◌∷◌, drop}
use Rattle.rules.specs.Text.Tokens.{Name, Info, Token, tk}
use Rattle.rules.specs.Grammar.Trees.{Tokens, Bits, bits_tokens, Operand, operand_tokens, Tail, tail_tokens, Subscript, subscript_tokens}
use Rattle.rules.specs.Grammar.Precedence.{factor_of, expr_of}
use Rattle.rules.specs.Faults.Bodies.{judge, judge_factor, judge_destination}
use Rattle.laws_grammar.specs.Cited.Nesting.{operand_nest, tail_nest, subscript_nest}
use Rattle.table.specs.Operators.{ends_access, ends_expression}
use Rattle.accesses.specs.Scene.{Scene, outer_of, table_of, Answers}
use Rattle.accesses.specs.declared.Judged.{Judged as Answer}

-- an expression, an operand and an access from the token i on, nested at most `depth` deep, with the token behind it
pub record ExpressionAt (records values decls : List ℕ) (i depth : ℕ) : Type 0 where
  pub scene : Scene records values decls
  pub first : Operand
  pub tail : Tail
  pub next : Token
  pub rest : Tokens
  pub reads : drop i scene.tokens ≡ operand_tokens first (tail_tokens tail (next ∷ rest))
  pub ends : ends_expression next.kind ≡ true
  pub shallow : max (operand_nest first) (tail_nest tail) ≤ depth

pub record OperandAt (records values decls : List ℕ) (i depth : ℕ) : Type 0 where
  pub scene : Scene records values decls
  pub operand : Operand
  pub next : Token
  pub rest : Tokens
  pub reads : drop i scene.tokens ≡ operand_tokens operand (next ∷ rest)
  pub ends : ends_access next.kind ≡ true
  pub shallow : operand_nest operand ≤ depth

pub record AccessAt (records values decls : List ℕ) (i depth : ℕ) : Type 0 where
  pub scene : Scene records values decls
  pub name : Info
  pub subscript : Subscript
  pub bits : Bits
  pub next : Token
  pub rest : Tokens
  pub reads : drop i scene.tokens ≡ tk Name name ∷ subscript_tokens subscript (bits_tokens bits (next ∷ rest))
  pub ends : ends_access next.kind ≡ true
  pub shallow : subscript_nest subscript ≤ depth

module _ {records values decls : List ℕ} {i depth : ℕ} where
  abbrev pub ExpressionAnswer : ExpressionAt records values decls i depth → Answer → Type 0
  ExpressionAnswer v r =
      Answers v.scene.tokens (v.next ∷ v.rest) i (judge (outer_of v.scene) (table_of v.scene) (expr_of v.first v.tail)) r

  abbrev pub OperandAnswer : OperandAt records values decls i depth → Answer → Type 0
  OperandAnswer v r = Answers v.scene.tokens (v.next ∷ v.rest) i (judge_factor (outer_of v.scene) (table_of v.scene) (factor_of v.operand)) r

  abbrev pub AccessAnswer : AccessAt records values decls i depth → Answer → Type 0
  AccessAnswer v r =
      Answers v.scene.tokens (v.next ∷ v.rest) i (judge_destination (outer_of v.scene) (table_of v.scene) v.name v.subscript v.bits) r
