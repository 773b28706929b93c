-- An operand behind its NOTs.
use Rattle.std.specs.Prelude.{ℕ, suc, ◌+◌, ◌≡◌, List, drop}
use Rattle.rules.specs.Grammar.Trees.{Tokens, Operand, constant, access, parens, negated, operand_tokens}
use Rattle.records.specs.Holds.{Holds}

-- without the NOTs in front of it, and how many they are
abbrev pub bare : Operand → Operand
bare (constant i) = constant i
bare (access i s b) = access i s b
bare (parens l o t r) = parens l o t r
bare (negated i o) = bare o

abbrev pub nots : Operand → ℕ
nots (constant i) = 0
nots (access i s b) = 0
nots (parens l o t r) = 0
nots (negated i o) = suc (nots o)

-- an operand from the token i on, and where it stands without its NOTs
pub record OperandIn (records : List ℕ) (i : ℕ) : Type 0 where
  pub text : List ℕ
  pub values : List ℕ
  pub tokens : Tokens
  pub holds : Holds text records values tokens
  pub operand : Operand
  pub rest : Tokens
  pub reads : drop i tokens ≡ operand_tokens operand rest

pub record Bared {records : List ℕ} {i : ℕ} (v : OperandIn records i) (p : ℕ) : Type 0 where
  pub past : p ≡ i + nots v.operand
  pub reads : drop p v.tokens ≡ operand_tokens (bare v.operand) v.rest
