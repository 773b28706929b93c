-- Spelled descriptions, as the other laws read them.
use Rattle.std.specs.Prelude.{ℕ, List}
use Rattle.reading.specs.Reading.{Reading}
use Rattle.nesting.specs.Spelt.{Spelt}
use Rattle.profiling.specs.Spelt.{SpeltDescription}

module _ {records decls : List ℕ} {m n : ℕ} (v : SpeltDescription records decls m n) where
  abbrev pub reading : Reading records decls m n
  reading = record { text = v.text; values = v.values; tokens = v.tokens; description = v.description; ready = v.ready; count = v.count }

  abbrev pub spelt : Spelt records n
  spelt = record { text = v.text; values = v.values; tokens = v.tokens; holds = v.ready.holds; count = v.count; spelled = v.spelled }
