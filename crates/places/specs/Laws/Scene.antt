-- Laws of a description in a table: its declarations by their numbers.
-- Assumes nothing.
use Rattle.std.specs.Prelude.{ℕ, zero, suc, ◌+◌, ◌*◌, ◌<◌, ◌≤◌, ◌≡◌, List, [], ◌∷◌, length}
use Rattle.std.proofs.Math.Path.{ap}
use Rattle.std.proofs.Common.{◌∙◌, arith}
use Rattle.std.proofs.Math.Option.{some}
use Rattle.std.proofs.Math.ListN.{get_elem?}
use Rattle.cells.specs.Cells.{cell}
use Rattle.rules.specs.Text.Tokens.{Name, Info, Token, tk}
use Rattle.rules.specs.Text.Scan.{same_bytes}
use Rattle.rules.specs.Declarations.{Declared, Table, declared_of, number_of}
use Rattle.laws_accepted.proofs.Accepted.Named.{found}
use Rattle.laws_accepted.specs.Cited.Declared.{Declares}
use Rattle.laws_accepted.proofs.Accepted.Declared.{declares}
use Rattle.records.specs.Holds.{token_at, inside_cell}
use Rattle.table.specs.Ready.{outer_of, table_of, Scene}
use Rattle.table.specs.Views.{View}
use Rattle.table.specs.Meaning.{meaning_by, meaning_of}
use Rattle.table.specs.Laws.Kth.{table_length, kth_room, kth_view}
use Rattle.table.specs.Kth.{kth, kth_found}

there_below : (ds : Table) (k : ℕ) (d : Declared) → get_elem? ds k ≡ some d → k < length ds
there_below [] k d e = absurd (let z : ◌≡◌ {A = ℕ} 0 1 = cc in omega arith)
there_below (x ∷ ds) zero d e = omega arith
there_below (x ∷ ds) (suc k) d e = omega (arith, there_below ds k d e)

module _ {records values decls : List ℕ} {m : ℕ} (s : Scene records values decls m) where
  pub lawful : Declares (outer_of s) (table_of s)
  lawful = declares s.description s.ready.lawful

  -- the declaration of the number k, and where its name stands
  module _ {k : ℕ} (l : k < m) where
    abbrev pub declared_here : Declared
    declared_here = declared_of (kth s.ready l).declaration

    pub listed_here : get_elem? (table_of s) k ≡ some declared_here
    listed_here = kth_found s.ready l

    pub cell_room : 2 * k + 2 ≤ length decls
    cell_room = kth_room s.ready l

    abbrev pub view_here : {p : ℕ} → p ≡ cell 2 decls k → View records values p
    view_here e = kth_view s.ready l e

  -- the cell of a name has the number of its declaration
  pub numbered : (i : ℕ) (x : Info) (k : ℕ) → i < length s.tokens → token_at s.tokens i ≡ tk Name x → number_of (table_of s) x.word ≡ some k
      → (inside_cell records i ≡ k) × (k < m)
  unfolding meaning_of
  numbered i x k h e q =
      let means : inside_cell records i ≡ meaning_of (outer_of s) (table_of s) x.word
      = s.ready.means.means i h (ap (λ (t : Token). t.kind) e) ∙ ap (λ (t : Token). meaning_of (outer_of s) (table_of s) t.info.word) e in
      let f = found (table_of s) x.word k q in
      (means ∙ ap (λ n. meaning_by n (same_bytes (outer_of s) x.word)) q, omega (arith, there_below (table_of s) k f.declared f.there, table_length s.ready))
