-- A description in the table, with the text that its words stand in.
use Rattle.std.specs.Prelude.{ℕ, ◌≡◌, List, length}
use Rattle.rules.specs.Grammar.Trees.{Tokens, Description}
use Rattle.rules.specs.Declarations.{Table, declarations}
use Rattle.table.specs.Ready.{Ready}

pub record Written (text records decls : List ℕ) (m n : ℕ) : Type 0 where
  pub values : List ℕ
  pub tokens : Tokens
  pub description : Description
  pub ready : Ready text records values decls tokens description m
  pub count : n ≡ length tokens

module _ {text records decls : List ℕ} {m n : ℕ} (v : Written text records decls m n) where
  -- the declarations of the whole
  abbrev pub whole : Table
  whole = declarations v.description
