-- From an accepted description in the table to the promise under which it is run.
-- Assumes nothing.
use Rattle.std.specs.Prelude.{ℕ, ◌≤◌, refl, List, length}
use Rattle.std.proofs.Common.{arith}
use Rattle.rules.specs.Text.Scan.{scan}
use Rattle.rules.specs.Grammar.Trees.{Tokens, Description}
use Rattle.rules.specs.Declarations.{outer_name}
use Rattle.rules.specs.Faults.Whole.{main_name}
use Rattle.laws_code.specs.Cited.Placed.{description_code}
use Rattle.table.specs.Ready.{Ready}
use Rattle.spelling.specs.Spelled.{Spelled}
use Rattle.places.specs.Placing.{Described, AllPlaced}
use Rattle.links.specs.Links.{Links}
use Rattle.links.specs.Mains.{MainIn, MainFound}
use Rattle.links.specs.Laws.Promised.{promised, main_in, main_starts}
use Rattle.runner.specs.Runs.{RunAt}
use Rattle.starts.specs.Starts.{Begins}
use Rattle.accepted.specs.Accepted.{Accepts, described_by, table_by}
use Rattle.preparing.specs.Prepared.{Prepared}

module _ {text records values decls : List ℕ} {m words n : ℕ} (v : Accepts text records values decls m words n) where
  abbrev pub to_place : Described records values decls n m
  to_place = record {
    scene = record { text = text; tokens = (scan text).tokens; description = described_by v; ready = v.lawful.declares.ready };
    count = v.lawful.declares.count;
  }

  module _ {values' : List ℕ} (placed : AllPlaced to_place values') where
    pub to_link : (values : List ℕ) × (ts : Tokens) × (d : Description) × Ready text records values decls ts d m × Spelled records ts
    to_link = (values', (scan text).tokens, described_by v, placed.ready, v.lawful.declares.spelled)

    module _ {records' : List ℕ} (links : Links records records' decls (scan text).tokens (described_by v)) where
      abbrev pub to_start : MainIn records' decls m
      to_start = main_in placed.ready links v.whole

      pub prepared : {start : ℕ} → 512 ≤ length decls → MainFound to_start start → Prepared v records' values' start
      prepared {start} room found =
          let s = main_starts placed.ready links v.whole start found in
          record {
            promise = promised placed.ready links v.lawful.sound v.whole refl placed.accesses (omega arith);
            body = s.0;
            declared = s.1;
            begins = s.2;
          }

  abbrev pub to_run : {records' values' carriers : List ℕ} {start : ℕ} → Prepared v records' values' start → Begins (table_by v) carriers
      → RunAt records' values' decls carriers start
  to_run p b = record {
    text = text;
    tokens = (scan text).tokens;
    outer = (outer_name (described_by v)).word;
    table = table_by v;
    code = description_code (described_by v);
    promise = p.promise;
    main = main_name (table_by v);
    body = p.body;
    declared = p.declared;
    begins = p.begins;
    words = b.long;
  }
