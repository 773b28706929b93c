-- What is written: the links of every body, with its own name as the outermost label, and at a body's name its first instruction.
use Rattle.std.specs.Prelude.{ℕ, ◌≡◌, List, length}
use Rattle.std.proofs.Math.Option.{Option, none, some}
use Rattle.std.proofs.Math.ListN.{get_elem?}
use Rattle.cells.specs.Cells.{cell}
use Rattle.rules.specs.Grammar.Trees.{Tokens, Action, Declaration, Description}
use Rattle.rules.specs.Declarations.{Word, Table, declared_of, declarations, outer_name}
use Rattle.laws_orders.specs.Cited.Flat.{exit, outer, bind}
use Rattle.laws_code.specs.Cited.Code.{first_of}
use Rattle.laws_code.specs.Cited.Placed.{body_starts}
use Rattle.table.specs.Declarations.{declaration_list}
use Rattle.records.specs.Holds.{link_cell}
use Rattle.records.specs.Kept.{Kept}
use Rattle.ways.specs.Linked.{Linked}

-- the body of the declaration whose name is the token `name` begins at `start`
abbrev pub BodyLinked : List ℕ → Word → Table → Word → ℕ → ℕ → Option Action → Type 0
BodyLinked records outermost ds own name start none = Unit {0}
BodyLinked records outermost ds own name start (some a) =
    (link_cell records name ≡ first_of start a) × Linked records outermost ds (bind own (first_of start a) exit outer) start exit a

abbrev pub DeclarationLinked : List ℕ → List ℕ → Description → ℕ → Declaration → Type 0
DeclarationLinked records decls d k x =
    BodyLinked records (outer_name d).word (declarations d) (declared_of x).name.word (cell 2 decls k) (body_starts d k) (declared_of x).body

-- of the records only bytes 4 to 7 of the description's tokens change
pub record Links (before after decls : List ℕ) (ts : Tokens) (d : Description) : Type 0 where
  pub each : (k : ℕ) (x : Declaration) → get_elem? (declaration_list d) k ≡ some x → DeclarationLinked after decls d k x
  pub kept : Kept before after 0 (length ts)
