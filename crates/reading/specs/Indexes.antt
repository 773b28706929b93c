-- Where a table with a place for each declaration has what is known of a name.
use Rattle.std.specs.Prelude.{ℕ}
use Rattle.std.proofs.Math.Option.{Option, none, some}
use Rattle.rules.specs.Limits.{most_declarations}
use Rattle.rules.specs.Declarations.{Word, Table, number_of}

-- of names that are not declared: behind all
abbrev pub undeclared : ℕ
undeclared = most_declarations

abbrev pub number_or : Option ℕ → ℕ
number_or none = undeclared
number_or (some k) = k

-- at the number of its declaration
abbrev pub index_of : Table → Word → ℕ
index_of ds w = number_or (number_of ds w)
