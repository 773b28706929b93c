-- The operators and operands behind the first operand of a chain.
use Rattle.std.specs.Prelude.{ℕ, ◌≡◌, true, List, ◌∷◌, drop}
use Rattle.rules.specs.Text.Tokens.{Token}
use Rattle.rules.specs.Grammar.Trees.{Tokens, Tail, tail_tokens}
use Rattle.table.specs.Operators.{ends_expression}
use Rattle.operands.specs.Scene.{Scene}

-- what is left of an expression from the token p on, behind an operand
pub record TailAt {records values carriers : List ℕ} (s : Scene records values carriers) (p : ℕ) : Type 0 where
  pub tail : Tail
  pub next : Token
  pub rest : Tokens
  pub reads : drop p s.tokens ≡ tail_tokens tail (next ∷ rest)
  pub ends : ends_expression next.kind ≡ true
