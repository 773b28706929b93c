-- The declaration of a number in the table.
use Rattle.std.specs.Prelude.{ℕ, ◌<◌, ◌≡◌, List}
use Rattle.std.proofs.Math.Option.{some}
use Rattle.std.proofs.Math.ListN.{get_elem?}
use Rattle.cells.specs.Cells.{cell}
use Rattle.rules.specs.Grammar.Trees.{Declaration}
use Rattle.rules.specs.Declarations.{declared_of}
use Rattle.table.specs.Declarations.{DeclaredAt}
use Rattle.table.specs.Kth.{kth, kth_found}
use Rattle.reading.specs.Reading.{Reading, table_of}

-- the declaration of the number k
pub record Declares {records decls : List ℕ} {m n : ℕ} (v : Reading records decls m n) (k : ℕ) : Type 0 where
  pub declaration : Declaration
  pub found : get_elem? (table_of v) k ≡ some (declared_of declaration)
  pub stands : DeclaredAt v.tokens (cell 2 decls k) declaration

module _ {records decls : List ℕ} {m n : ℕ} (v : Reading records decls m n) where
  pub declares : (k : ℕ) → k < m → Declares v k
  declares k h = record {
    declaration = (kth v.ready h).declaration;
    found = kth_found v.ready h;
    stands = v.ready.declared.each k (kth v.ready h).declaration (kth v.ready h).found;
  }
