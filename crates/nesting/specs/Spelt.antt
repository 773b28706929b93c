-- Tokens in the table where names are spelled: their words are compared as numbers, without the text.
use Rattle.std.specs.Prelude.{ℕ, ◌≡◌, List, length}
use Rattle.rules.specs.Grammar.Trees.{Tokens}
use Rattle.records.specs.Holds.{Holds}
use Rattle.spelling.specs.Spelled.{Spelled}

-- n tokens
pub record Spelt (records : List ℕ) (n : ℕ) : Type 0 where
  pub text : List ℕ
  pub values : List ℕ
  pub tokens : Tokens
  pub holds : Holds text records values tokens
  pub count : n ≡ length tokens
  pub spelled : Spelled records tokens
