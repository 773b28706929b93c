-- A name in the token table of a text.
use Rattle.std.specs.Prelude.{ℕ, List}
use Rattle.rules.specs.Grammar.Trees.{Tokens}
use Rattle.records.specs.Holds.{Holds}
use Rattle.records.specs.Words.{NameAt, word_at}

-- a name is the token i
pub record NameIn (text records : List ℕ) (i : ℕ) : Type 0 where
  pub values : List ℕ
  pub tokens : Tokens
  pub holds : Holds text records values tokens
  pub name : NameAt tokens i

abbrev pub word_in : {text records : List ℕ} {i : ℕ} → NameIn text records i → List ℕ
word_in {text} {records} {i} v = word_at v.tokens i
