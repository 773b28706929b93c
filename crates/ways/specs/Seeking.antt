-- What a search looks for, where a tree stands.
use Rattle.std.specs.Prelude.{ℕ, ◌≡◌, true, List, ◌∷◌, drop}
use Rattle.rules.specs.Text.Tokens.{Token}
use Rattle.rules.specs.Text.Scan.{same_bytes}
use Rattle.rules.specs.Grammar.Trees.{Tokens, Action, action_tokens}
use Rattle.rules.specs.Declarations.{Word, Table}
use Rattle.records.specs.Holds.{Holds}
use Rattle.table.specs.Scans.{scan}
use Rattle.records.specs.Words.{NameAt, word_at}

-- what stays as it is while links are written; names with the same word have the same spelling
pub record Ground : Type 0 where
  pub text : List ℕ
  pub values : List ℕ
  pub tokens : Tokens
  pub outer : Word
  pub table : Table
  pub spelling : ℕ → ℕ
  pub alike : (i j : ℕ) → NameAt tokens i → NameAt tokens j → same_bytes (word_at tokens i) (word_at tokens j) ≡ true → spelling i ≡ spelling j

abbrev pub Stands : Ground → List ℕ → Type 0
Stands g records = Holds g.text records g.values g.tokens

-- from `from` on a token is found
pub record Seeks (g : Ground) (records : List ℕ) (from goal : ℕ) : Type 0 where
  pub holds : Stands g records
  pub next : Token
  pub rest : Tokens
  pub finds : scan goal 0 (drop from g.tokens) ≡ next ∷ rest

-- an action begins at i
pub record Starts (g : Ground) (records : List ℕ) (i : ℕ) : Type 0 where
  pub holds : Stands g records
  pub action : Action
  pub rest : Tokens
  pub reads : drop i g.tokens ≡ action_tokens action rest
