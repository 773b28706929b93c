-- The first activation of a level, and the body that a refusal 51 names.
use Rattle.std.specs.Prelude.{ℕ, ◌<◌, ◌≤◌, ◌≡◌, Bool, true, false, List, [], ◌∷◌}
use Rattle.std.proofs.Math.Option.{Option, none, some}
use Rattle.rules.specs.Declarations.{Word, Table, number_of}
use Rattle.rules.specs.Reasons.{refused_body}

-- the first of these names for which the test holds, by the number of its declaration
unfoldable pub first_in : Table → (Word → Bool) → List Word → Option ℕ
first_in ds p [] = none
first_in ds p (n ∷ ns) = elim (p n) [ true ↦ number_of ds n | false ↦ first_in ds p ns ]

-- where a chain begins: the number of the refused body
abbrev pub start_by : Table → Option Word → Option ℕ
start_by ds none = none
start_by ds (some n) = number_of ds n

abbrev pub start_of : Table → ℕ → Option ℕ
start_of ds p = start_by ds (refused_body ds p ds)

-- a number below m, and m or more where there is none
pub record Numbered (m r : ℕ) (o : Option ℕ) : Type 0 where
  pub one : r < m → o ≡ some r
  pub nothing : m ≤ r → o ≡ none
