-- The words of a table in bytes, and a view of them.
use Rattle.std.specs.Prelude.{ℕ, ◌*◌, ◌/◌, ◌<◌, ◌≤◌, List, length}
use Rattle.cells.specs.Cells.{cell, cells}
use Rattle.rules.specs.Steps.Evaluation.{Carriers}

-- all words of a table
abbrev pub table_words : List ℕ → Carriers
table_words bytes = cells 8 (length bytes / 8) bytes

-- n numbers of words in a table of that many bytes
pub record Sees (view : List ℕ) (n size : ℕ) : Type 0 where
  pub room : 2 * n ≤ length view
  pub below : (i : ℕ) → i < n → cell 2 view i < size / 8
