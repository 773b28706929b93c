-- The n tokens of a table, whatever they are.
use Rattle.std.specs.Prelude.{ℕ, ◌≡◌, List, length}
use Rattle.rules.specs.Grammar.Trees.{Tokens}
use Rattle.records.specs.Holds.{Holds}

pub record Valued (records values : List ℕ) (n : ℕ) : Type 0 where
  pub text : List ℕ
  pub tokens : Tokens
  pub holds : Holds text records values tokens
  pub count : n ≡ length tokens
