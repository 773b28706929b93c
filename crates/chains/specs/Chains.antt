-- Chains of activations by levels: of level 0 are all bodies, of level k + 1 those that activate one of level k. A body of level k begins a chain over
-- k bodies long.
use Rattle.std.specs.Prelude.{ℕ, ◌≡◌, Bool, false, ◌||◌, List}
use Rattle.std.proofs.Math.Option.{Option, none, some}
use Rattle.rules.specs.Declarations.{Word, Table, number_of}
use Rattle.rules.specs.Whole.Sets.{calls_in, any_name, chain_over}
use Rattle.reading.specs.Bodies.{act_at}
use Rattle.reading.specs.Bits.{holds}

-- whether a name is of a level: of the one of all names, or of that of the declarations that the words hold
abbrev pub number_in : List ℕ → Option ℕ → Bool
number_in w none = false
number_in w (some k) = holds w k

unfoldable pub in_level : Table → List ℕ → Bool → Word → Bool
in_level ds w all n = all || number_in w (number_of ds n)

-- whether the declaration k activates a name of a level
unfoldable pub activates_one : Table → (Word → Bool) → ℕ → Bool
activates_one ds p k = any_name p (calls_in (act_at ds k))

-- LEVELS are chains
pub record Levelled (ds : Table) (w : List ℕ) (all : Bool) (k : ℕ) : Type 0 where
  pub chains : (n : Word) → chain_over ds k n ≡ in_level ds w all n
