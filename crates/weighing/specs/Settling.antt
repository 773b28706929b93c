-- Settling the operators that wait and bind as tightly as the next one.
use Rattle.std.specs.Prelude.{ℕ, ◌≤◌, ◌≡◌, List, length}
use Rattle.rules.specs.Grammar.Trees.{Tokens}
use Rattle.rules.specs.Grammar.Precedence.{Factor}
use Rattle.rules.specs.Faults.Bodies.{Judged}
use Rattle.laws_grammar.specs.Cited.Shunting.{Waiting, looser, settled}
use Rattle.records.specs.Holds.{Holds}
use Rattle.weighing.specs.Weights.{Weighs, operated}
use Rattle.weighing.specs.Chains.{Wait}

-- `count` operators wait in the arrays, and the operand behind the last of them weighs k and n
pub record SettleAt (records ats keys lengths : List ℕ) (count k n : ℕ) : Type 0 where
  pub text : List ℕ
  pub values : List ℕ
  pub tokens : Tokens
  pub holds : Holds text records values tokens
  pub waits : List (Waiting Judged)
  pub value : Judged
  pub counts : count ≡ length waits
  pub few : count ≤ 5
  pub waiting : Wait tokens ats keys lengths waits
  pub weighs : Weighs k n value

-- what is left, and what the settled ones weigh
pub record Settles (operand : Factor → Judged) (tight : ℕ) (waits : List (Waiting Judged)) (value : Judged) (count k n : ℕ) : Type 0 where
  pub left : count ≡ length (looser operated operand tight waits value)
  pub weighs : Weighs k n (settled operated operand tight waits value)
