-- The body of a declaration in the tables, and the bodies of all declarations.
use Rattle.std.specs.Prelude.{ℕ, ◌*◌, ◌≤◌, ◌≡◌, List, length}
use Rattle.rules.specs.Grammar.Trees.{Declaration}
use Rattle.rules.specs.Limits.{deepest}
use Rattle.rules.specs.Declarations.{declared_of}
use Rattle.rules.specs.Faults.Fault.{Fault}
use Rattle.rules.specs.Faults.Bodies.{body_faults, faults40}
use Rattle.laws_grammar.specs.Cited.Nesting.{declaration_nest}
use Rattle.table.specs.Declarations.{DeclaredAt}
use Rattle.room.specs.Bodies.{index_end}
use Rattle.plain.specs.Stage.{Stage, outer_of, table_of}

-- a declaration's name is the token i
pub record BodyView (text records values decls room : List ℕ) (i : ℕ) : Type 0 where
  pub stage : Stage text records values decls
  pub declaration : Declaration
  pub stands : DeclaredAt stage.tokens i declaration
  pub shallow : declaration_nest declaration ≤ deepest
  pub large : 2 * index_end ≤ length room

abbrev pub faults_of_body : {text records values decls room : List ℕ} {i : ℕ} → BodyView text records values decls room i → List Fault
faults_of_body v = let d = declared_of v.declaration in body_faults (outer_of v.stage) (table_of v.stage) d.name.word d.body

-- m declarations stand in the tables
pub record BodiesView (text records values decls room : List ℕ) (m : ℕ) : Type 0 where
  pub stage : Stage text records values decls
  pub count : m ≡ stage.declared
  pub large : 2 * index_end ≤ length room

abbrev pub faults_of_bodies : {text records values decls room : List ℕ} {m : ℕ} → BodiesView text records values decls room m → List Fault
faults_of_bodies v = faults40 (outer_of v.stage) (table_of v.stage) (table_of v.stage)
