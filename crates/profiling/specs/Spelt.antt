-- A description in the table where names are spelled.
use Rattle.std.specs.Prelude.{ℕ, ◌≡◌, List, length}
use Rattle.rules.specs.Grammar.Trees.{Tokens, Description}
use Rattle.rules.specs.Declarations.{Table, declarations}
use Rattle.table.specs.Ready.{Ready}
use Rattle.spelling.specs.Spelled.{Spelled}

-- a description of n tokens and m declarations
pub record SpeltDescription (records decls : List ℕ) (m n : ℕ) : Type 0 where
  pub text : List ℕ
  pub values : List ℕ
  pub tokens : Tokens
  pub description : Description
  pub ready : Ready text records values decls tokens description m
  pub count : n ≡ length tokens
  pub spelled : Spelled records tokens

module _ {records decls : List ℕ} {m n : ℕ} (v : SpeltDescription records decls m n) where
  -- the declarations of the whole
  abbrev pub whole : Table
  whole = declarations v.description
