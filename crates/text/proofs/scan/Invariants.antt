-- `text::scan` meets its contract: what is written so far, and the scan of the rest, come to the whole scan.
-- Assumes nothing.
use mathlib.Core.Path.{◌≡◌}
use mathlib.Core.List.{List}
use Prim.Native.Nat.{ℕ, ◌-◌, ◌≤◌}
use lib.ListN.{length}
use Rattle.rules.specs.Text.Scan.{Scan, scan}
use Rattle.classes.specs.Classes.{Classed}
use Rattle.classes.specs.Laws.Runs.{classed}
use Rattle.text.specs.Laws.Scans.{from}
use Rattle.text.specs.Table.{record_cells, value_cells, write_cells, scanned_of}
use Rattle.text.specs.Laws.Table.{scanned_from}
use Rattle.text.proofs.scan.Given as goal

-- a scan s that is still to come, behind `count` tokens, brings both buffers and the answer to those of the whole text
pub record Left (text records₀ values₀ : List ℕ) (s : Scan) (records values : List ℕ) (count before : ℕ) : Type 0 where
  pub answer : scanned_from count s ≡ scanned_of (scan text)
  pub in_records : write_cells 8 records count (record_cells s.tokens) ≡ write_cells 8 records₀ 0 (record_cells (scan text).tokens)
  pub in_values : write_cells 8 values count (value_cells before s.tokens) ≡ write_cells 8 values₀ 0 (value_cells 0 (scan text).tokens)

pub record Inv (text records₀ values₀ classes records values : List ℕ) (at count before : ℕ) : Type 0 where
  pub classed : Classed classes
  pub within : at ≤ length text
  pub few : count ≤ 8192
  pub long_records : length records ≡ length records₀
  pub long_values : length values ≡ length values₀
  pub left : Left text records₀ values₀ (from text at (8192 - count)) records values count before

abbrev pub invariant-loop-at : goal.invariant-loop-at
invariant-loop-at l = Inv l.text l.initial.records l.initial.values l.classes l.records l.values l.at l.count l.before

abbrev pub decreases-loop-at : goal.decreases-loop-at
decreases-loop-at l = length l.text - l.at
