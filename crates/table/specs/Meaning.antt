-- What the names of a table mean, once they are resolved: inside a name's record stands the number of its first declaration.
use Rattle.std.specs.Prelude.{ℕ, ◌<◌, ◌≡◌, Bool, true, false, List, length}
use Rattle.std.proofs.Math.Option.{Option, none, some}
use Rattle.rules.specs.Text.Tokens.{Name}
use Rattle.rules.specs.Text.Scan.{same_bytes}
use Rattle.rules.specs.Grammar.Trees.{Tokens}
use Rattle.rules.specs.Declarations.{Word, Table, number_of}
use Rattle.records.specs.Holds.{inside_cell, token_at}

-- a name that is not declared: the outer name, or unknown
abbrev pub outer_only : ℕ
outer_only = 65534

abbrev pub unknown_name : ℕ
unknown_name = 65535

abbrev pub meaning_by : Option ℕ → Bool → ℕ
meaning_by (some k) o = k
meaning_by none true = outer_only
meaning_by none false = unknown_name

unfoldable pub meaning_of : Word → Table → Word → ℕ
meaning_of outer ds n = meaning_by (number_of ds n) (same_bytes outer n)

pub record MeaningHolds (records : List ℕ) (ts : Tokens) (outer : Word) (ds : Table) : Type 0 where
  pub means : (i : ℕ) → i < length ts → (token_at ts i).kind ≡ Name → inside_cell records i ≡ meaning_of outer ds (token_at ts i).info.word
