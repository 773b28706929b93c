-- What a declaration of the second text meets in the first.
use Rattle.std.specs.Prelude.{ℕ, suc, ◌≡◌, Bool, true, false, [], ◌∷◌}
use Rattle.std.proofs.Math.Option.{Option, none, some}
use Rattle.rules.specs.Declarations.{Declared, Table}
use Rattle.rules.specs.Pair.{same_storage, shared_with, clashes}
use Rattle.pair_tables.specs.declared.meeting.Met.{Met}
use Rattle.pair_tables.specs.declared.meeting.Met.TheVariants.{Own, Clashing, Shared}

-- the number of the first text's storage under its name; as many as there are where there is none
unfoldable pub namesake : Table → Declared → ℕ
namesake [] d = 0
namesake (c ∷ cs) d = elim (same_storage c d) [ true ↦ 0 | false ↦ suc (namesake cs d) ]

abbrev pub shared_by : Met → Option ℕ
shared_by Own = none
shared_by Clashing = none
shared_by (Shared i) = some i

abbrev pub clashes_by : Met → Bool
clashes_by Own = false
clashes_by Clashing = true
clashes_by (Shared i) = false

pub record Meets (first : Table) (d : Declared) (r : Met) : Type 0 where
  pub shares : shared_with first d ≡ shared_by r
  pub clash : clashes first d ≡ clashes_by r
