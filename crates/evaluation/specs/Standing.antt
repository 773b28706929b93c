-- What an expression that stands in the table comes to.
use Rattle.std.specs.Prelude.{ℕ, ◌≡◌, List, Result, Ok, Err}
use Rattle.rules.specs.Grammar.Precedence.{Expr}
use Rattle.rules.specs.Values.{value}
use Rattle.rules.specs.Steps.Evaluation.{gives, faulty, evaluate}
use Rattle.operands.specs.declared.accesses.Outside.{Outside}
use Rattle.operands.specs.declared.expressions.Value.{Value as Worked}
use Rattle.operands.specs.Scene.{Scene, words_of}

-- the answer for an expression that stands before the token j
abbrev pub Stood : {records values carriers : List ℕ} → Scene records values carriers → ℕ → Expr → Result Worked Outside → Type 0
Stood s j e (Ok v) = (evaluate s.table (words_of s) e ≡ gives (value v.bits v.number)) × (v.next ≡ j)
Stood s j e (Err o) = evaluate s.table (words_of s) e ≡ faulty 70 o.place
