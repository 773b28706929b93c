-- The faults of the 30s from one declaration on.
use Rattle.std.specs.Prelude.{ℕ, List, ◌++◌}
use Rattle.rules.specs.Declarations.{Word, Table}
use Rattle.rules.specs.Faults.Fault.{Fault}
use Rattle.rules.specs.Faults.Declared.{twice, large, too_many, mappings}

-- the faults from there on
unfoldable pub faults_from : Word → Table → List Word → ℕ → ℕ → Table → List Fault
faults_from outer all known n w ds = twice known ds ++ (large ds ++ (too_many n w ds ++ mappings outer all ds))
