-- The k-th declaration of a table that is ready: where it is listed, and how it is seen.
use Rattle.std.specs.Prelude.{ℕ, zero, suc, ◌<◌, ◌≡◌, List, [], ◌∷◌, map}
use Rattle.std.proofs.Common.{ap, ◌∙◌, arith}
use Rattle.std.proofs.Math.Option.{some}
use Rattle.std.proofs.Math.ListN.{get_elem?}
use Rattle.rules.specs.Grammar.Trees.{Tokens, Declaration, Description}
use Rattle.rules.specs.Declarations.{declared_of, declarations, Table}
use Rattle.table.specs.Declarations.{declaration_list, all_declared}
use Rattle.table.specs.Lookups.{Nth, nth}
use Rattle.table.specs.Ready.{Ready}

pub map_found : (l : List Declaration) (k : ℕ) (d : Declaration) → get_elem? l k ≡ some d → get_elem? (map declared_of l) k ≡ some (declared_of d)
map_found [] k d e = absurd (let z : ◌≡◌ {A = ℕ} 0 1 = cc in omega arith)
map_found (c ∷ l) zero d e = let q : c ≡ d = cc in rw q
map_found (c ∷ l) (suc k) d e = map_found l k d e

module _ {text records values decls : List ℕ} {ts : Tokens} {d : Description} {m : ℕ} (r : Ready text records values decls ts d m) where
  module _ {k : ℕ} (l : k < m) where
    abbrev pub kth : Nth (declaration_list d) k
    kth = nth (declaration_list d) k (omega (arith, r.count))

    pub kth_found : get_elem? (declarations d) k ≡ some (declared_of kth.declaration)
    kth_found = ap (λ (t : Table). get_elem? t k) (all_declared d) ∙ map_found (declaration_list d) k kth.declaration kth.found
