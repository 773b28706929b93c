-- An accepted description in the table, as it can be run.
use Rattle.std.specs.Prelude.{ℕ, ◌≡◌, List}
use Rattle.std.proofs.Math.Option.{some}
use Rattle.rules.specs.Text.Scan.{scan}
use Rattle.rules.specs.Grammar.Trees.{Action}
use Rattle.rules.specs.Declarations.{outer_name, body_of}
use Rattle.rules.specs.Faults.Whole.{main_name}
use Rattle.laws_code.specs.Cited.Placed.{description_code}
use Rattle.promise.specs.Promise.{Promise}
use Rattle.accepted.specs.Accepted.{Accepts, described_by, table_by}

module _ {text records values decls : List ℕ} {m words n : ℕ} (v : Accepts text records values decls m words n) where
  -- the table as a run needs it, and where MAIN begins
  pub record Prepared (records' values' : List ℕ) (start : ℕ) : Type 0 where
    pub promise : Promise text records' values' decls (scan text).tokens (outer_name (described_by v)).word (table_by v) (description_code (described_by v))
    pub body : Action
    pub declared : body_of (table_by v) (main_name (table_by v)) ≡ some body
    pub begins : start ≡ (description_code (described_by v)).first (main_name (table_by v))
