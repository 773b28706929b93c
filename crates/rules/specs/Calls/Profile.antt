-- What `isps_profile` leaves and returns, for every text, two lent names of any bytes, and all memory.
use Rattle.std.specs.Prelude.{ℕ, ◌<◌, ◌≤◌, ◌≡◌, List, [], ◌∷◌, length}
use Rattle.rules.specs.Limits.{longest_text}
use Rattle.rules.specs.Answers.{refused_numbers}
use Rattle.rules.specs.Paths.{Profile, passes, fails, ProfileAnswers}
use Rattle.rules.specs.Calls.Memory.{Memory, Enough, settled}

abbrev pub profile_number : Profile → ℕ
profile_number passes = 0
profile_number (fails m p) = m

abbrev pub profile_numbers : List ℕ → Profile → List ℕ
profile_numbers text passes = 0 ∷ 0 ∷ 0 ∷ 0 ∷ 0 ∷ 0 ∷ 0 ∷ 0 ∷ []
profile_numbers text (fails m p) = refused_numbers text m p

-- "1 and 2 change nothing"; else the answer is the one to this text and these names, and work memory is zero
pub data ProfileCall (text test output : List ℕ) (before after : Memory) (number : ℕ) : Type 0 where
  short_memory : (Enough before → ⊥) → number ≡ 1 → after ≡ before → ProfileCall text test output before after number
  long_text : Enough before → longest_text < length text → number ≡ 2 → after ≡ before → ProfileCall text test output before after number
  answer : (x : Profile) → Enough before → length text ≤ longest_text → ProfileAnswers text test output x → number ≡ profile_number x
      → after ≡ settled (profile_numbers text x) before → ProfileCall text test output before after number
