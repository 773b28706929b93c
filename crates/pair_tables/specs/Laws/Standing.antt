-- The declarations of a description in the table of a text: by their numbers, and their names.
-- Assumes nothing.
use Rattle.std.specs.Prelude.{ℕ, ◌+◌, ◌*◌, ◌<◌, ◌≤◌, ◌≡◌, List, [], ◌∷◌, ◌++◌, length}
use Rattle.std.proofs.Common.{ap, ◌∙◌, arith}
use Rattle.cells.specs.Cells.{cell}
use Rattle.rules.specs.Text.Tokens.{Token}
use Rattle.rules.specs.Limits.{longest_text}
use Rattle.rules.specs.Declarations.{Word, Table, declared_of, outer_name}
use Rattle.rules.specs.Faults.Declared.{twice, large, too_many, mappings, faults30}
use Rattle.laws_accepted.proofs.Accepted.Faultless.{both_empty}
use Rattle.records.specs.Holds.{place_cell}
use Rattle.table.specs.Kth.{kth}
use Rattle.table.specs.Laws.Views.{name_token}
use Rattle.pair_tables.specs.Words.{NameIn, word_in}
use Rattle.pair_tables.specs.Standing.{Stands, declared_by, DeclaredIn}

module _ {text records values decls : List ℕ} {m k p : ℕ} (v : Stands text records values decls m) (l : k < m) (e : p ≡ cell 2 decls k) where
  -- the k-th
  abbrev pub kth_in : DeclaredIn text records values p
  kth_in = record {
    tokens = v.tokens;
    holds = v.ready.holds;
    declaration = (kth v.ready l).declaration;
    stands = rw e (v.ready.declared.each k (kth v.ready l).declaration (kth v.ready l).found);
  }

module _ {text records values : List ℕ} {p : ℕ} (v : DeclaredIn text records values p) where
  abbrev pub name_in : NameIn text records p
  name_in = record {
    values = values;
    tokens = v.tokens;
    holds = v.holds;
    name = record { within = (name_token v.stands).0; kind = ap (λ (t : Token). t.kind) (name_token v.stands).1 };
  }

  pub word_in_lem : word_in name_in ≡ (declared_of v.declaration).name.word
  word_in_lem = ap (λ (t : Token). t.info.word) (name_token v.stands).1

-- it declares no name twice
no_twice : (outer : Word) (ds : Table) → faults30 outer ds ≡ [] → twice (outer ∷ []) ds ≡ []
unfolding faults30
no_twice outer ds e = (both_empty (twice (outer ∷ []) ds) (large ds ++ (too_many 0 0 ds ++ mappings outer ds ds)) e).0

pub stands_once : {text records values decls : List ℕ} {m : ℕ} (v : Stands text records values decls m)
    → twice ((outer_name v.description).word ∷ []) (declared_by v) ≡ []
stands_once v = no_twice (outer_name v.description).word (declared_by v) v.ready.lawful

-- the place of a declaration's name
module _ {text records values : List ℕ} {p : ℕ} (v : DeclaredIn text records values p) where
  pub record_in : 8 * p + 8 ≤ length records
  record_in = omega (arith, v.holds.record_room, (name_token v.stands).0)

  pub place_in : place_cell records p ≡ (declared_of v.declaration).name.place
  place_in = (v.holds.entry p (name_token v.stands).0).place ∙ ap (λ (t : Token). t.info.place) (name_token v.stands).1

  pub place_near : place_cell records p ≤ longest_text
  place_near =
      let e = v.holds.entry p (name_token v.stands).0 in
      omega (arith, e.place, e.inside, v.holds.short)
