-- The k-th declaration of a table that is ready: where it is listed, and how it is seen.
-- Assumes nothing.
use Rattle.std.specs.Prelude.{ℕ, zero, suc, ◌+◌, ◌*◌, ◌<◌, ◌≤◌, ◌≡◌, refl, List, [], ◌∷◌, map, length, drop}
use Rattle.std.proofs.Common.{sym, ap, ◌∙◌, arith}
use Rattle.std.proofs.lemmas.List.{length-map}
use Rattle.cells.specs.Cells.{cell}
use Rattle.rules.specs.Grammar.Trees.{Tokens, Declaration, Description}
use Rattle.rules.specs.Declarations.{declared_of, declarations, Table}
use Rattle.table.specs.Declarations.{declaration_list, all_declared}
use Rattle.table.specs.Views.{View}
use Rattle.table.specs.Lookups.{Nth}
use Rattle.table.specs.Ready.{Ready}
use Rattle.table.specs.Kth.{kth}

drop_map : (k : ℕ) (l : List Declaration) → drop k (map declared_of l) ≡ map declared_of (drop k l)
drop_map zero l = refl
drop_map (suc k) [] = refl
drop_map (suc k) (d ∷ l) = drop_map k l

pub table_from : (l : List Declaration) (k : ℕ) (n : Nth l k) → drop k (map declared_of l) ≡ declared_of n.declaration ∷ drop (suc k) (map declared_of l)
table_from l k n = drop_map k l ∙ ap (map declared_of) n.split ∙ ap (λ (t : Table). declared_of n.declaration ∷ t) (sym (drop_map (suc k) l))

module _ {text records values decls : List ℕ} {ts : Tokens} {d : Description} {m : ℕ} (r : Ready text records values decls ts d m) where
  pub table_length : length (declarations d) ≡ m
  table_length = ap length (all_declared d) ∙ (length-map (declaration_list d) declared_of ∙ sym r.count)

  module _ {k : ℕ} (l : k < m) where
    pub kth_room : 2 * k + 2 ≤ length decls
    kth_room = omega (arith, r.declared.room, r.count)

    pub kth_next : drop k (declarations d) ≡ declared_of (kth r l).declaration ∷ drop (suc k) (declarations d)
    kth_next = rw (all_declared d) (table_from (declaration_list d) k (kth r l))

    abbrev pub kth_view : {p : ℕ} → p ≡ cell 2 decls k → View records values p
    kth_view e = record {
      text = text;
      tokens = ts;
      holds = r.holds;
      declaration = (kth r l).declaration;
      stands = rw e (r.declared.each k (kth r l).declaration (kth r l).found);
    }
