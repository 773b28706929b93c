-- A destination that is sound: each access of it is, and together they have at most 64 bits.
use Rattle.std.specs.Prelude.{ℕ, ◌+◌, ◌≤◌, List, [], ◌∷◌}
use Rattle.rules.specs.Grammar.Precedence.{cell}
use Rattle.rules.specs.Limits.{most_bits}
use Rattle.rules.specs.Declarations.{Word, Table}
use Rattle.rules.specs.Steps.Actions.{Access}
use Rattle.rules.specs.Faults.Bodies.{judge_factor}
use Rattle.laws_accepted.specs.Cited.Lengths.{SizedFactor}

module _ (outer : Word) (ds : Table) where
  abbrev pub SizedAccesses : List Access → Type 0
  SizedAccesses [] = Unit {0}
  SizedAccesses (a ∷ more) = SizedFactor outer ds (cell a.name a.index a.bits) × SizedAccesses more

  -- their bits together
  unfoldable pub all_bits : List Access → ℕ
  all_bits [] = 0
  all_bits (a ∷ more) = (judge_factor outer ds (cell a.name a.index a.bits)).bits + all_bits more

  pub record SizedDestination (to : List Access) : Type 0 where
    pub parts : SizedAccesses to
    pub short : all_bits to ≤ most_bits
