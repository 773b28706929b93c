-- What the reader promises of a text that it accepts: a description without faults, and the table that holds it.
use Rattle.std.specs.Prelude.{ℕ, ◌≤◌, ◌≡◌, List, [], length}
use Rattle.rules.specs.Text.Scan.{scan}
use Rattle.rules.specs.Grammar.Trees.{Description, flatten}
use Rattle.rules.specs.Declarations.{Table, declarations, outer_name, total_words}
use Rattle.rules.specs.Limits.{most_words}
use Rattle.rules.specs.Faults.Bodies.{faults40}
use Rattle.rules.specs.Faults.Whole.{faults50}
use Rattle.rules.specs.Answers.{judgement, accepted, Checks}
use Rattle.table.specs.Ready.{Ready}
use Rattle.spelling.specs.Spelled.{Spelled}

-- the description that stands in the text, and the table that holds it
pub record Declares (text records values decls : List ℕ) (m n : ℕ) : Type 0 where
  pub description : Description
  pub reads : flatten description ≡ (scan text).tokens
  pub verdict : Checks text (judgement description)
  pub ready : Ready text records values decls (scan text).tokens description m
  pub spelled : Spelled records (scan text).tokens
  pub count : n ≡ length (scan text).tokens

-- a description without faults of the 30s and 40s
pub record Lawful (text records values decls : List ℕ) (m n : ℕ) : Type 0 where
  pub declares : Declares text records values decls m n
  pub sound : faults40 (outer_name declares.description).word (declarations declares.description) (declarations declares.description) ≡ []

-- a description that is accepted, and the table that holds it
pub record Accepts (text records values decls : List ℕ) (m words n : ℕ) : Type 0 where
  pub lawful : Lawful text records values decls m n
  pub whole : faults50 (declarations lawful.declares.description) ≡ []
  pub counted : words ≡ total_words (declarations lawful.declares.description)
  pub few_words : words ≤ most_words
  pub verdict : Checks text (accepted m words)

module _ {text records values decls : List ℕ} {m words n : ℕ} (v : Accepts text records values decls m words n) where
  abbrev pub described_by : Description
  described_by = v.lawful.declares.description

  abbrev pub table_by : Table
  table_by = declarations described_by
