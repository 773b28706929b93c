-- What stands in the lent tables once the declarations are passed and names are spelled, with the text.
use Rattle.std.specs.Prelude.{ℕ, ◌<◌, ◌≡◌, List, length}
use Rattle.rules.specs.Text.Tokens.{Const}
use Rattle.rules.specs.Grammar.Trees.{Tokens, Description}
use Rattle.rules.specs.Declarations.{Word, Table, declarations, outer_name}
use Rattle.records.specs.Holds.{token_at}
use Rattle.table.specs.Ready.{Ready}
use Rattle.spelling.specs.Spelled.{Spelled}

pub record Stage (text records values decls : List ℕ) : Type 0 where
  pub tokens : Tokens
  pub description : Description
  pub declared : ℕ
  pub ready : Ready text records values decls tokens description declared
  pub spelled : Spelled records tokens
  pub fixed : (i : ℕ) → i < length tokens → (token_at tokens i).kind ≡ Const → (token_at tokens i).info.free ≡ 0

module _ {text records values decls : List ℕ} (s : Stage text records values decls) where
  abbrev pub outer_of : Word
  outer_of = (outer_name s.description).word

  abbrev pub table_of : Table
  table_of = declarations s.description
