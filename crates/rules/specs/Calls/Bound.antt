-- What `isps_bound` leaves and returns, for every text and all memory.
use Rattle.std.specs.Prelude.{ℕ, ◌<◌, ◌≤◌, ◌≡◌, List, [], ◌∷◌, length}
use Rattle.rules.specs.Limits.{longest_text}
use Rattle.rules.specs.Answers.{refused_numbers}
use Rattle.rules.specs.Bound.{Bound, bound, no_bound, not_bounded, Bounds}
use Rattle.rules.specs.Calls.Memory.{Memory, Enough, settled}

abbrev pub bound_number : Bound → ℕ
bound_number (bound n) = 0
bound_number no_bound = 0
bound_number (not_bounded m p) = m

-- the bound stands where a run has its steps; the ending of `no bound` is 5
abbrev pub bound_numbers : List ℕ → Bound → List ℕ
bound_numbers text (bound n) = 0 ∷ 0 ∷ 0 ∷ n ∷ 0 ∷ 0 ∷ 0 ∷ 0 ∷ []
bound_numbers text no_bound = 5 ∷ 0 ∷ 0 ∷ 0 ∷ 0 ∷ 0 ∷ 0 ∷ 0 ∷ []
bound_numbers text (not_bounded m p) = refused_numbers text m p

-- "1 and 2 change nothing"; else the answer is the text's, and work memory is zero
pub data BoundCall (text : List ℕ) (before after : Memory) (number : ℕ) : Type 0 where
  short_memory : (Enough before → ⊥) → number ≡ 1 → after ≡ before → BoundCall text before after number
  long_text : Enough before → longest_text < length text → number ≡ 2 → after ≡ before → BoundCall text before after number
  answer : (x : Bound) → Enough before → length text ≤ longest_text → Bounds text x → number ≡ bound_number x → after ≡ settled (bound_numbers text x) before
      → BoundCall text before after number
