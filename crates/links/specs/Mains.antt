-- Where MAIN's body begins, in a table whose links are written.
use Rattle.std.specs.Prelude.{ℕ, ◌<◌, ◌≡◌, List, [], length}
use Rattle.std.proofs.Math.Option.{some}
use Rattle.std.proofs.Math.ListN.{get_elem?}
use Rattle.cells.specs.Cells.{cell}
use Rattle.rules.specs.Text.Tokens.{Name, kind_no}
use Rattle.rules.specs.Grammar.Trees.{Tokens, Action, Declaration, Description}
use Rattle.rules.specs.Declarations.{declared_of, declarations}
use Rattle.rules.specs.Faults.Whole.{main_name, faults50}
use Rattle.records.specs.Holds.{Holds, kind_byte, link_cell}
use Rattle.records.specs.Words.{word_at}
use Rattle.table.specs.Declarations.{declaration_list}
use Rattle.table.specs.Lookups.{DeclsHold}

-- m declarations stand in the table, and one of them is MAIN's
pub record MainIn (records decls : List ℕ) (m : ℕ) : Type 0 where
  pub text : List ℕ
  pub values : List ℕ
  pub tokens : Tokens
  pub description : Description
  pub holds : Holds text records values tokens
  pub declared : DeclsHold decls tokens (declaration_list description)
  pub count : m ≡ length (declaration_list description)
  pub of50 : faults50 (declarations description) ≡ []

-- the token r is MAIN's name, and MAIN's declaration has the number k
pub record MainNamed {records decls : List ℕ} {m : ℕ} (v : MainIn records decls m) (r : ℕ) : Type 0 where
  pub within : r < length v.tokens
  pub kind : kind_byte records r ≡ kind_no Name
  pub named : word_at v.tokens r ≡ main_name (declarations v.description)
  pub number : ℕ
  pub declaration : Declaration
  pub found : get_elem? (declaration_list v.description) number ≡ some declaration
  pub declared : (declared_of declaration).name.word ≡ main_name (declarations v.description)
  pub body : Action
  pub its : (declared_of declaration).body ≡ some body
  pub stands : r ≡ cell 2 decls number

-- MAIN's declaration is the number k, and its name leads to r
pub record MainFound {records decls : List ℕ} {m : ℕ} (v : MainIn records decls m) (r : ℕ) : Type 0 where
  pub number : ℕ
  pub declaration : Declaration
  pub found : get_elem? (declaration_list v.description) number ≡ some declaration
  pub named : (declared_of declaration).name.word ≡ main_name (declarations v.description)
  pub body : Action
  pub its : (declared_of declaration).body ≡ some body
  pub leads : r ≡ link_cell records (cell 2 decls number)
