-- Declarations with no fault of the 30s, and lengths of 1 to 64 bits.
use Rattle.std.specs.Prelude.{ℕ, ◌≤◌, ◌≡◌, []}
use Rattle.std.proofs.Math.Option.{Option, none, some}
use Rattle.std.proofs.Math.ListN.{get_elem?}
use Rattle.rules.specs.Declarations.{Word, Names, Target, Declared, Table}
use Rattle.rules.specs.Limits.{most_bits}
use Rattle.rules.specs.Faults.Declared.{faults30}

-- a mapping has no words
abbrev pub Bare : Option Target → Option Names → Type 0
Bare none w = Unit {0}
Bare (some t) w = w ≡ none

-- declarations of a description with no fault of the 30s
pub record Declares (outer : Word) (ds : Table) : Type 0 where
  pub of30 : faults30 outer ds ≡ []
  pub bare : (i : ℕ) (d : Declared) → get_elem? ds i ≡ some d → Bare d.target d.words

-- from 1 to 64 bits
pub record Length (n : ℕ) : Type 0 where
  pub some : 1 ≤ n
  pub short : n ≤ most_bits
