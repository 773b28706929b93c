-- The tables of an accepted text with its carriers, and the tree of an expression that stands in them at a token.
use Rattle.std.specs.Prelude.{ℕ, ◌*◌, ◌^◌, ◌<◌, ◌≤◌, max, ◌≡◌, true, List, ◌∷◌, length, drop, Result, Ok, Err}
use Rattle.cells.specs.Cells.{cells}
use Rattle.rules.specs.Text.Tokens.{Name, Const, Info, Token, tk}
use Rattle.rules.specs.Grammar.Trees.{Tokens, Bits, bits_tokens, Operand, operand_tokens, Tail, tail_tokens, Subscript, subscript_tokens}
use Rattle.rules.specs.Grammar.Precedence.{cell, factor_of, index_of, expr_of}
use Rattle.rules.specs.Values.{Value, value}
use Rattle.rules.specs.Declarations.{Word, Table, total_words}
use Rattle.rules.specs.Steps.Actions as actions
use Rattle.rules.specs.Steps.Evaluation.{Carriers, Outcome, gives, faulty, Field, evaluate, evaluate_factor, evaluate_access}
use Rattle.laws_grammar.specs.Cited.Nesting.{operand_nest, tail_nest, subscript_nest}
use Rattle.laws_accepted.specs.Cited.Declared.{Declares}
use Rattle.laws_accepted.specs.Cited.Lengths.{Sized, SizedFactor}
use Rattle.records.specs.Holds.{Holds, token_at}
use Rattle.promise.specs.Accesses.{AccessesHold}
use Rattle.table.specs.Operators.{ends_access, ends_expression}
use Rattle.operands.specs.declared.accesses.Field.{Field as Located}
use Rattle.operands.specs.declared.accesses.Outside.{Outside}
use Rattle.operands.specs.declared.expressions.Value.{Value as Worked}

-- an accepted text, and as many words as its carriers have
pub record Scene (records values carriers : List ℕ) : Type 0 where
  pub text : List ℕ
  pub tokens : Tokens
  pub outer : Word
  pub table : Table
  pub holds : Holds text records values tokens
  pub fits : (i : ℕ) → i < length tokens → (token_at tokens i).kind ≡ Const → (token_at tokens i).info.value < 2 ^ (token_at tokens i).info.bits
  pub declares : Declares outer table
  pub accesses : AccessesHold values tokens outer table
  pub words : length carriers ≡ 8 * total_words table

-- the carriers' words in a lent buffer
abbrev pub carrier_words : ℕ → List ℕ → Carriers
carrier_words n bytes = cells 8 n bytes

abbrev pub words_of : {records values carriers : List ℕ} → Scene records values carriers → Carriers
words_of {carriers = c} s = carrier_words (total_words s.table) c

-- an expression, an operand and an access from the token i on, sound and nested at most `depth` deep, with the token behind it
pub record ExpressionAt (records values carriers : List ℕ) (i depth : ℕ) : Type 0 where
  pub scene : Scene records values carriers
  pub first : Operand
  pub tail : Tail
  pub next : Token
  pub rest : Tokens
  pub reads : drop i scene.tokens ≡ operand_tokens first (tail_tokens tail (next ∷ rest))
  pub ends : ends_expression next.kind ≡ true
  pub shallow : max (operand_nest first) (tail_nest tail) ≤ depth
  pub sized : Sized scene.outer scene.table (expr_of first tail)

pub record OperandAt (records values carriers : List ℕ) (i depth : ℕ) : Type 0 where
  pub scene : Scene records values carriers
  pub operand : Operand
  pub next : Token
  pub rest : Tokens
  pub reads : drop i scene.tokens ≡ operand_tokens operand (next ∷ rest)
  pub ends : ends_access next.kind ≡ true
  pub shallow : operand_nest operand ≤ depth
  pub sized : SizedFactor scene.outer scene.table (factor_of operand)

pub record AccessAt (records values carriers : List ℕ) (i depth : ℕ) : Type 0 where
  pub scene : Scene records values carriers
  pub name : Info
  pub subscript : Subscript
  pub bits : Bits
  pub next : Token
  pub rest : Tokens
  pub reads : drop i scene.tokens ≡ tk Name name ∷ subscript_tokens subscript (bits_tokens bits (next ∷ rest))
  pub ends : ends_access next.kind ≡ true
  pub shallow : subscript_nest subscript ≤ depth
  pub sized : SizedFactor scene.outer scene.table (cell name (index_of subscript) bits)

-- What stands from i on, with `rest` behind it, is worked out: it gives this, and ends before the token p.
pub record Gives {A : Type 0} (tokens rest : Tokens) (i : ℕ) (o : Outcome A) (a : A) (p : ℕ) : Type 0 where
  pub comes : o ≡ gives a
  pub past : i < p
  pub behind : drop p tokens ≡ rest

-- the answer for it
abbrev pub Answers : Tokens → Tokens → ℕ → Outcome Value → Result Worked Outside → Type 0
Answers tokens rest i o (Ok v) = Gives tokens rest i o (value v.bits v.number) v.next
Answers tokens rest i o (Err e) = o ≡ faulty 70 e.place

abbrev pub Locates : Tokens → Tokens → ℕ → Outcome Field → Result Located Outside → Type 0
Locates tokens rest i o (Ok f) = Gives tokens rest i o (record { word = f.word; low = f.low; size = f.size }) f.next
Locates tokens rest i o (Err e) = o ≡ faulty 70 e.place

module _ {records values carriers : List ℕ} {i depth : ℕ} where
  abbrev pub ExpressionAnswer : ExpressionAt records values carriers i depth → Result Worked Outside → Type 0
  ExpressionAnswer v r =
      Answers v.scene.tokens (v.next ∷ v.rest) i (evaluate v.scene.table (words_of v.scene) (expr_of v.first v.tail)) r

  abbrev pub OperandAnswer : OperandAt records values carriers i depth → Result Worked Outside → Type 0
  OperandAnswer v r =
      Answers v.scene.tokens (v.next ∷ v.rest) i (evaluate_factor v.scene.table (words_of v.scene) (factor_of v.operand)) r

  abbrev pub AccessAnswer : AccessAt records values carriers i depth → Result Located Outside → Type 0
  AccessAnswer v r =
      Locates v.scene.tokens (v.next ∷ v.rest) i
      (evaluate_access v.scene.table (words_of v.scene) (actions.access v.name v.subscript v.bits)) r
