-- The operators of a chain that wait: kept in three arrays, by their token, and the key and the length of their left operand.
use Rattle.std.specs.Prelude.{ℕ, ◌<◌, ◌≡◌, List, [], ◌∷◌, length, get_or}
use Rattle.rules.specs.Text.Tokens.{tk, op_kind}
use Rattle.rules.specs.Grammar.Trees.{Tokens}
use Rattle.rules.specs.Faults.Bodies.{Judged}
use Rattle.laws_grammar.specs.Cited.Shunting.{Waiting}
use Rattle.records.specs.Holds.{token_at}
use Rattle.weighing.specs.Weights.{Weighs}

-- an operator that waits: its token is `at`, and its left operand weighs so
pub record WaitsAt (tokens : Tokens) (at k n : ℕ) (w : Waiting Judged) : Type 0 where
  pub within : at < length tokens
  pub here : token_at tokens at ≡ tk (op_kind w.op) w.info
  pub left : Weighs k n w.left

-- those that wait, the last first: each stands in the arrays at the number of those below it
abbrev pub Wait : Tokens → List ℕ → List ℕ → List ℕ → List (Waiting Judged) → Type 0
Wait tokens ats keys lengths [] = Unit {0}
Wait tokens ats keys lengths (w ∷ ws) =
    WaitsAt tokens (get_or ats (length ws) 0) (get_or keys (length ws) 0) (get_or lengths (length ws) 0) w × Wait tokens ats keys lengths ws
