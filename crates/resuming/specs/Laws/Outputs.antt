-- An accepted description as it is written in the table, and whether a declaration of it is storage.
-- Assumes nothing.
use Rattle.std.specs.Prelude.{ℕ, ◌<◌, ◌≡◌, Bool, List}
use Rattle.std.proofs.Common.{sym, subst}
use Rattle.cells.specs.Cells.{cell}
use Rattle.rules.specs.Text.Scan.{scan}
use Rattle.rules.specs.Declarations.{declared_of}
use Rattle.table.specs.Views.{View}
use Rattle.reading.specs.Meanings.{declares}
use Rattle.reading.specs.Laws.Meanings.{view}
use Rattle.whole.specs.Written.{Written}
use Rattle.whole.specs.Laws.Written.{reading}
use Rattle.profiling.specs.Spelt.{SpeltDescription}
use Rattle.naming.specs.Names.{is_storage_of}
use Rattle.accepted.specs.Accepted.{Accepts, described_by}

-- an accepted description, as it is written in the table
abbrev pub written_by : {text records values decls : List ℕ} {m words n : ℕ} → Accepts text records values decls m words n → Written text records decls m n
written_by {text} {values = values} v = record {
  values = values;
  tokens = (scan text).tokens;
  description = described_by v;
  ready = v.lawful.declares.ready;
  count = v.lawful.declares.count;
}

-- the same with its names spelled
abbrev pub spelt_by : {text records values decls : List ℕ} {m words n : ℕ} → Accepts text records values decls m words n → SpeltDescription records decls m n
spelt_by {text} {values = values} v = record {
  text = text;
  values = values;
  tokens = (scan text).tokens;
  description = described_by v;
  ready = v.lawful.declares.ready;
  count = v.lawful.declares.count;
  spelled = v.lawful.declares.spelled;
}

-- the declaration k of an accepted description, whose name is the token p
module _ {text records values decls : List ℕ} {m words n : ℕ} (v : Accepts text records values decls m words n) {k p : ℕ} (l : k < m) (e : p ≡ cell 2 decls k) where
  pub view_of : View records values p
  view_of = subst (λ (x : ℕ). View records values x) (sym e) (view (reading (written_by v)) k l)

  pub storage_of : {b : Bool} → ((w : View records values p) → b ≡ is_storage_of (declared_of w.declaration))
      → b ≡ is_storage_of (declared_of (declares (reading (written_by v)) k l).declaration)
  storage_of {b} is =
      subst (λ (x : ℕ). (w : View records values x) → b ≡ is_storage_of (declared_of w.declaration)) e is (view (reading (written_by v)) k l)
