-- What the first two passes come to: a refusal that Check may give, or a description that stands in the table.
use Rattle.std.specs.Prelude.{ℕ, ◌≤◌, ◌≡◌, true, false, List, ltb, length, Result, Ok, Err}
use Rattle.rules.specs.Text.Scan.{scan, fine}
use Rattle.rules.specs.Grammar.Trees.{Description, flatten}
use Rattle.rules.specs.Grammar.Verdict.{Crowded}
use Rattle.rules.specs.Limits.{deepest, longest_text}
use Rattle.rules.specs.Answers.{refused, Checks}
use Rattle.laws_grammar.specs.Cited.Nesting.{nest}
use Rattle.text.specs.Table.{record_cells, value_cells, write_cells, scanned_of}
use Rattle.records.specs.Holds.{place_cell, Holds}
use Rattle.rules.specs.declared.refusals.Refusal.{Refusal}

-- the place of token k of n in the table, or of the end
unfoldable pub place_by : List ℕ → ℕ → ℕ → ℕ → ℕ
place_by records n k end = elim (ltb k n) [ true ↦ place_cell records k | false ↦ end ]

-- a description stands in the table
pub record Stands (text records values : List ℕ) (n : ℕ) : Type 0 where
  pub short : length text ≤ longest_text
  pub readable : (scan text).end ≡ fine
  pub holds : Holds text records values (scan text).tokens
  pub count : n ≡ length (scan text).tokens
  pub description : Description
  pub reads : flatten description ≡ (scan text).tokens
  pub shallow : (j : ℕ) → ¬ Crowded (flatten description) j
  pub nested : nest description ≤ deepest

-- a refusal that Check may give, at a place in the text or at its end
pub record Refuses (text : List ℕ) (m p : ℕ) : Type 0 where
  pub checks : Checks text (refused m p)
  pub near : p ≤ longest_text

abbrev pub Parses : List ℕ → List ℕ → List ℕ → Result ℕ Refusal → Type 0
Parses text records values (Err r) = Refuses text r.number r.place
Parses text records values (Ok n) = Stands text records values n

-- the buffers as the scan has written them
pub record Written (text records values : List ℕ) : Type 0 where
  pub before_a : List ℕ
  pub before_b : List ℕ
  pub short : length text ≤ longest_text
  pub room_a : 65536 ≤ length before_a
  pub room_b : 65536 ≤ length before_b
  pub is_a : records ≡ write_cells 8 before_a 0 (record_cells (scan text).tokens)
  pub is_b : values ≡ write_cells 8 before_b 0 (value_cells 0 (scan text).tokens)

-- all n tokens of a text stand in the table
pub record Scans (text records : List ℕ) (n : ℕ) : Type 0 where
  pub values : List ℕ
  pub written : Written text records values
  pub fine : Ok n ≡ scanned_of (scan text)
