-- What the lent names mean: a body, and a storage carrier.
use Rattle.std.specs.Prelude.{ℕ, ◌≡◌, Bool, true, false, Option as Found, Some, None}
use Rattle.std.proofs.Math.Option.{Option, none, some}
use Rattle.rules.specs.Declarations.{Word, BitNames, Target, Declared, Table, number_of, body_of}
use Rattle.rules.specs.Paths.{storage_of}

-- a number that is found, as the code hands it about
abbrev pub found : Option ℕ → Found ℕ
found none = None
found (some k) = Some k

abbrev pub has_storage : Option Target → Option BitNames → Bool
has_storage (some t) b = false
has_storage none none = false
has_storage none (some b) = true

abbrev pub is_storage_of : Declared → Bool
is_storage_of d = has_storage d.target d.bits

-- r is the number of the test; without one it is no body
pub record Test (ds : Table) (test : Word) (r : Found ℕ) : Type 0 where
  pub missing : r ≡ None → body_of ds test ≡ none
  pub there : (k : ℕ) → r ≡ Some k → (number_of ds test ≡ some k) × ((body_of ds test ≡ none) → ⊥)

-- r is the number of the output; without one it is no storage carrier
pub record Output (ds : Table) (output : Word) (r : Found ℕ) : Type 0 where
  pub missing : r ≡ None → storage_of ds output ≡ none
  pub there : (k : ℕ) → r ≡ Some k → (storage_of ds output ≡ some k) × (number_of ds output ≡ some k)
