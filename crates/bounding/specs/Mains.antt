-- MAIN's name among the tokens, and its count.
use Rattle.std.specs.Prelude.{ℕ, ◌<◌, ◌≤◌, ◌≡◌, List, length}
use Rattle.rules.specs.Text.Tokens.{Name, kind_no}
use Rattle.rules.specs.Limits.{longest_chain}
use Rattle.rules.specs.Declarations.{declarations}
use Rattle.rules.specs.Faults.Whole.{main_name}
use Rattle.bounds.specs.Cited.Counts.{endless, count_down}
use Rattle.records.specs.Holds.{kind_byte}
use Rattle.records.specs.Words.{word_at}
use Rattle.links.specs.Mains.{MainIn}
use Rattle.reading.specs.Reading.{table_of}
use Rattle.bounding.specs.Filling.{Ready}

pub record Longest (records decls : List ℕ) (m n r : ℕ) : Type 0 where
  pub low : r ≤ endless
  pub is : (v : Ready records decls m n) → r ≡ count_down (table_of v.reading) longest_chain (main_name (table_of v.reading))
