-- What holds once the declarations are passed: a description stands in the table, its names are resolved, and it has no fault of the 30s.
use Rattle.std.specs.Prelude.{ℕ, ◌≤◌, ◌≡◌, List, [], length}
use Rattle.rules.specs.Grammar.Trees.{Tokens, Description, flatten}
use Rattle.rules.specs.Declarations.{Word, Table, declarations, outer_name}
use Rattle.rules.specs.Faults.Declared.{faults30}
use Rattle.rules.specs.Limits.{most_declarations, deepest}
use Rattle.laws_grammar.specs.Cited.Nesting.{nest}
use Rattle.records.specs.Holds.{Holds}
use Rattle.table.specs.Declarations.{declaration_list}
use Rattle.table.specs.Lookups.{DeclsHold}
use Rattle.table.specs.Meaning.{MeaningHolds}

pub record Ready (text records values decls : List ℕ) (ts : Tokens) (d : Description) (m : ℕ) : Type 0 where
  pub holds : Holds text records values ts
  pub stands : flatten d ≡ ts
  pub shallow : nest d ≤ deepest
  pub declared : DeclsHold decls ts (declaration_list d)
  pub count : m ≡ length (declaration_list d)
  pub few : m ≤ most_declarations
  pub means : MeaningHolds records ts (outer_name d).word (declarations d)
  pub lawful : faults30 (outer_name d).word (declarations d) ≡ []

-- a description whose declarations are passed, in a table that has m of them
pub record Scene (records values decls : List ℕ) (m : ℕ) : Type 0 where
  pub text : List ℕ
  pub tokens : Tokens
  pub description : Description
  pub ready : Ready text records values decls tokens description m

abbrev pub outer_of : {records values decls : List ℕ} {m : ℕ} → Scene records values decls m → Word
outer_of s = (outer_name s.description).word

abbrev pub table_of : {records values decls : List ℕ} {m : ℕ} → Scene records values decls m → Table
table_of s = declarations s.description
