-- The declarations as a table of the numbers of their names' tokens, and what a name means.
use Rattle.std.specs.Prelude.{ℕ, zero, suc, ◌*◌, ◌<◌, ◌≤◌, ◌≡◌, refl, List, [], ◌∷◌, length, drop}
use Rattle.std.proofs.Math.Option.{Option, none, some}
use Rattle.std.proofs.Common.{arith}
use Rattle.std.proofs.Math.ListN.{get_elem?}
use Rattle.cells.specs.Cells.{cell}
use Rattle.rules.specs.Limits.{most_tokens}
use Rattle.rules.specs.Grammar.Trees.{Tokens, Declaration}
use Rattle.table.specs.Declarations.{DeclaredAt}

-- the cell k has the number of the name of the k-th declaration
pub record DeclsHold (decls : List ℕ) (ts : Tokens) (list : List Declaration) : Type 0 where
  pub room : 2 * length list ≤ length decls
  pub few : length list ≤ most_tokens
  pub each : (k : ℕ) (d : Declaration) → get_elem? list k ≡ some d → DeclaredAt ts (cell 2 decls k) d

abbrev pub or_else : ℕ → Option ℕ → ℕ
or_else m none = m
or_else m (some k) = k

-- the k-th of a list
pub record Nth (list : List Declaration) (k : ℕ) : Type 0 where
  pub declaration : Declaration
  pub found : get_elem? list k ≡ some declaration
  pub split : drop k list ≡ declaration ∷ drop (suc k) list

pub nth : (list : List Declaration) (k : ℕ) → k < length list → Nth list k
nth [] k l = absurd (omega arith)
nth (d ∷ list) zero l = record { declaration = d; found = refl; split = refl }
nth (d ∷ list) (suc k) l = let n = nth list k (omega arith) in record { declaration = n.declaration; found = n.found; split = n.split }
