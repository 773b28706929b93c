-- Settling the operators that wait and bind as tightly as the next one. They are kept in an array: the operator's kind, and the number and the length of
-- its left operand.
use Rattle.std.specs.Prelude.{ℕ, ◌≤◌, ◌≡◌, List, [], ◌∷◌, length, get_or, set}
use Rattle.rules.specs.Text.Tokens.{op_kind, kind_no}
use Rattle.rules.specs.Grammar.Precedence.{Expr}
use Rattle.rules.specs.Values.{value}
use Rattle.rules.specs.Declarations.{Word, Table}
use Rattle.rules.specs.Steps.Evaluation.{Carriers, gives, evaluate}
use Rattle.laws_grammar.specs.Cited.Shunting.{Waiting}
use Rattle.laws_accepted.specs.Cited.Declared.{Declares}
use Rattle.laws_accepted.specs.Cited.Lengths.{Sized}
use Rattle.operands.specs.declared.operators.Pending.{Pending}
use Rattle.operands.specs.Trees.{Waits, tree_left, tree_settled}

-- what stands above those that wait
abbrev pub nothing : Pending
nothing = record { op = 0; number = 0; bits = 0 }

module _ (ds : Table) (s : Carriers) where
  -- an operator that waits: the number of its kind, and what its left operand comes to
  pub record WaitsAt (p : Pending) (w : Waiting Expr) : Type 0 where
    pub kind : p.op ≡ kind_no (op_kind w.op)
    pub left : evaluate ds s w.left ≡ gives (value p.bits p.number)

  -- those that wait, the last first: each stands in the array at the number of those below it
  abbrev pub Wait : List Pending → Waits → Type 0
  Wait ps [] = Unit {0}
  Wait ps (w ∷ ws) = WaitsAt (get_or ps (length ws) nothing) w × Wait ps ws

-- `count` operators wait in the array, the operand behind the last of them comes to b, of n bits, and what is to be settled is sound
pub record SettleAt (ps : List Pending) (count b n tight : ℕ) : Type 0 where
  pub outer : Word
  pub table : Table
  pub declares : Declares outer table
  pub words : Carriers
  pub waits : Waits
  pub tree : Expr
  pub counts : count ≡ length waits
  pub few : count ≤ 5
  pub waiting : Wait table words ps waits
  pub comes : evaluate table words tree ≡ gives (value n b)
  pub sized : Sized outer table (tree_settled tight waits tree)

-- what is left, and what the settled ones come to
pub record Settles {ps : List Pending} {count₀ b₀ n₀ tight : ℕ} (v : SettleAt ps count₀ b₀ n₀ tight) (count b n : ℕ) : Type 0 where
  pub left : count ≡ length (tree_left tight v.waits v.tree)
  pub comes : evaluate v.table v.words (tree_settled tight v.waits v.tree) ≡ gives (value n b)

-- the operator of the kind k waits behind `count` others, with its left operand x of l bits
pub record Waited (ps : List Pending) (count x l k : ℕ) (ps' : List Pending) : Type 0 where
  pub is : ps' ≡ set ps count (record { op = k; number = x; bits = l })
