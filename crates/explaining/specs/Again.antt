-- A text whose description has no fault of the 30s, and the table that holds it.
use Rattle.std.specs.Prelude.{ℕ, ◌≡◌, List, [], length, Result, Ok, Err}
use Rattle.rules.specs.Text.Scan.{scan, fine}
use Rattle.rules.specs.Grammar.Trees.{Description, flatten}
use Rattle.rules.specs.Grammar.Verdict.{Crowded}
use Rattle.rules.specs.Declarations.{declarations, outer_name}
use Rattle.rules.specs.Faults.Declared.{faults30}
use Rattle.records.specs.Holds.{Holds}
use Rattle.reading.specs.Reading.{Reading}
use Rattle.reader.specs.declared.declaring.Standing.{Standing}
use Rattle.rules.specs.declared.refusals.Refusal.{Refusal}

pub record Sound (text : List ℕ) : Type 0 where
  pub description : Description
  pub readable : (scan text).end ≡ fine
  pub stands : flatten description ≡ (scan text).tokens
  pub shallow : (j : ℕ) → ¬ Crowded (flatten description) j
  pub passed : faults30 (outer_name description).word (declarations description) ≡ []

-- its tokens are in the table
pub record Rescanned (text records values : List ℕ) (n : ℕ) : Type 0 where
  pub sound : Sound text
  pub holds : Holds text records values (scan text).tokens
  pub count : n ≡ length (scan text).tokens

-- its declarations are
pub record Reread (text records decls : List ℕ) (m n : ℕ) : Type 0 where
  pub reading : Reading records decls m n
  pub stands : flatten reading.description ≡ (scan text).tokens

abbrev pub Rereads : List ℕ → List ℕ → List ℕ → Result Standing Refusal → Type 0
Rereads text records decls (Err r) = ⊥
Rereads text records decls (Ok s) = Reread text records decls s.declarations s.tokens
