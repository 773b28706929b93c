-- The words of two names.
use Rattle.std.specs.Prelude.{ℕ, ◌<◌, ◌≡◌, Bool, List, length}
use Rattle.rules.specs.Text.Tokens.{Name}
use Rattle.rules.specs.Text.Scan.{same_bytes}
use Rattle.rules.specs.Grammar.Trees.{Tokens}
use Rattle.records.specs.Holds.{token_at, Holds}

-- a name is the token i
pub record NameAt (ts : Tokens) (i : ℕ) : Type 0 where
  pub within : i < length ts
  pub kind : (token_at ts i).kind ≡ Name

abbrev pub word_at : Tokens → ℕ → List ℕ
word_at ts i = (token_at ts i).info.word

-- names are the tokens i and j of a table
pub record TwoNames (text records : List ℕ) (i j : ℕ) : Type 0 where
  pub values : List ℕ
  pub tokens : Tokens
  pub holds : Holds text records values tokens
  pub first : NameAt tokens i
  pub second : NameAt tokens j

abbrev pub same_words : {text records : List ℕ} {i j : ℕ} → TwoNames text records i j → Bool
same_words {text} {records} {i} {j} v = same_bytes (word_at v.tokens i) (word_at v.tokens j)
