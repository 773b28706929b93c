-- A description in the token table of a text, and a declaration in it.
use Rattle.std.specs.Prelude.{ℕ, List}
use Rattle.rules.specs.Grammar.Trees.{Tokens, Declaration, Description}
use Rattle.rules.specs.Declarations.{Table, declarations}
use Rattle.records.specs.Holds.{Holds}
use Rattle.table.specs.Declarations.{DeclaredAt}
use Rattle.table.specs.Views.{View}
use Rattle.table.specs.Ready.{Ready, Scene}
use Rattle.accepted.specs.Accepted.{Accepts, described_by}

-- a description whose m declarations are passed
pub record Stands (text records values decls : List ℕ) (m : ℕ) : Type 0 where
  pub tokens : Tokens
  pub description : Description
  pub ready : Ready text records values decls tokens description m

abbrev pub declared_by : {text records values decls : List ℕ} {m : ℕ} → Stands text records values decls m → Table
declared_by v = declarations v.description

abbrev pub scene_of : {text records values decls : List ℕ} {m : ℕ} → Stands text records values decls m → Scene records values decls m
scene_of {text} v = record { text = text; tokens = v.tokens; description = v.description; ready = v.ready }

-- an accepted one
abbrev pub standing : {text records values decls : List ℕ} {m words n : ℕ} → Accepts text records values decls m words n → Stands text records values decls m
standing v = record { tokens = _; description = described_by v; ready = v.lawful.declares.ready }

-- a declaration whose name is the token p
pub record DeclaredIn (text records values : List ℕ) (p : ℕ) : Type 0 where
  pub tokens : Tokens
  pub holds : Holds text records values tokens
  pub declaration : Declaration
  pub stands : DeclaredAt tokens p declaration

abbrev pub view_of : {text records values : List ℕ} {p : ℕ} → DeclaredIn text records values p → View records values p
view_of {text} v = record { text = text; tokens = v.tokens; holds = v.holds; declaration = v.declaration; stands = v.stands }
