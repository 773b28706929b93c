-- Laws of what is asked of a description: from the numbers of its test and its output to the lowest place.
-- Assumes nothing.
use Rattle.std.specs.Prelude.{ℕ, ◌+◌, ◌*◌, ◌<◌, ◌≤◌, ◌≡◌, List, [], length}
use Rattle.std.proofs.Common.{◌∙◌, arith}
use Rattle.std.proofs.Math.Option.{some}
use Rattle.cells.specs.Cells.{cell}
use Rattle.rules.specs.Declarations.{number_of}
use Rattle.rules.specs.Faults.Whole.{main_name, faults50}
use Rattle.reading.specs.Reading.{Reading, table_of}
use Rattle.reading.specs.Laws.Meanings.{table_size_lem}
use Rattle.reading.specs.Laws.Names.{number_bound}
use Rattle.profiling.specs.Spelt.{whole}
use Rattle.profiling.specs.Laws.Spelt.{reading}
use Rattle.profiling.specs.Levels.{Starting, Known16}
use Rattle.profiling.specs.Laws.Answers.{aimed, lowest_known}
use Rattle.profiling.specs.declared.tasks.Task.{Task}
use Rattle.resuming.specs.Asked.{Asked, Lowest}

module _ {records decls : List ℕ} {t : Task} (g : Asked records decls t) where
  pub to_rounds : {table next room : List ℕ} → 65536 ≤ length table → 1028 ≤ length next → 65536 ≤ length room → Starting records decls table next room t
  to_rounds a b c = record {
    written = g.written;
    test = g.test;
    aims = aimed g.written g.test t.aim g.aims;
    output = g.output;
    table_room = omega arith;
    next_room = b;
    space = omega arith;
  }

  module _ {k : ℕ} (main : (v : Reading records decls t.m t.n) → faults50 (table_of v) ≡ [] → number_of (table_of v) (main_name (table_of v)) ≡ some k) where
    pub main_few : k < 256
    main_few = omega (
      arith,
      number_bound (whole g.written) k (main_name (whole g.written)) (main (reading g.written) g.lawful),
      table_size_lem (reading g.written),
      g.written.ready.few,
    )

    pub lowest_is : {table : List ℕ} {r : ℕ} → Known16 records decls table t → r ≡ cell 2 table (2 * k + 1) → Lowest g r
    lowest_is known e =
        e ∙ lowest_known t known g.written g.test (aimed g.written g.test t.aim g.aims) k (main (reading g.written) g.lawful)
