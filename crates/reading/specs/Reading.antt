-- What the passes over a description find in the table: the kinds of its tokens; and all that holds once the declarations are passed.
use Rattle.std.specs.Prelude.{ℕ, ◌*◌, ◌<◌, ◌≤◌, ◌≡◌, List, length}
use Rattle.rules.specs.Grammar.Trees.{Tokens, Description}
use Rattle.rules.specs.Declarations.{Table, declarations}
use Rattle.rules.specs.Limits.{most_tokens}
use Rattle.records.specs.Holds.{kind_byte, token_at}
use Rattle.table.specs.Ready.{Ready}
use Rattle.table.specs.Scans.{no}

-- n tokens by their kinds
pub record Kinded (records : List ℕ) (n : ℕ) : Type 0 where
  pub tokens : Tokens
  pub count : n ≡ length tokens
  pub few : n ≤ most_tokens
  pub room : 8 * n ≤ length records
  pub kind : (i : ℕ) → i < n → kind_byte records i ≡ no (token_at tokens i)

-- n tokens and m declarations, which are passed
pub record Reading (records decls : List ℕ) (m n : ℕ) : Type 0 where
  pub text : List ℕ
  pub values : List ℕ
  pub tokens : Tokens
  pub description : Description
  pub ready : Ready text records values decls tokens description m
  pub count : n ≡ length tokens

module _ {records decls : List ℕ} {m n : ℕ} (v : Reading records decls m n) where
  abbrev pub table_of : Table
  table_of = declarations v.description
