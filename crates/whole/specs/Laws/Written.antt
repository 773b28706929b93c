-- A description that is written in the table, as the other laws read it.
use Rattle.std.specs.Prelude.{ℕ, List}
use Rattle.records.specs.Holds.{Tabled}
use Rattle.reading.specs.Reading.{Reading}
use Rattle.whole.specs.Written.{Written}

module _ {text records decls : List ℕ} {m n : ℕ} (v : Written text records decls m n) where
  abbrev pub reading : Reading records decls m n
  reading = record { text = text; values = v.values; tokens = v.tokens; description = v.description; ready = v.ready; count = v.count }

  abbrev pub worded : Tabled text records n
  worded = record { values = v.values; tokens = v.tokens; holds = v.ready.holds; count = v.count }
