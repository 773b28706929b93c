-- What `isps_store` and `isps_load` leave and return, for every text, all carriers, every image and all memory.
use Rattle.std.specs.Prelude.{ℕ, ◌<◌, ◌≤◌, ◌≡◌, List, [], ◌∷◌, length}
use Rattle.rules.specs.Limits.{longest_text}
use Rattle.rules.specs.Declarations.{Table}
use Rattle.rules.specs.Answers.{refused_numbers}
use Rattle.rules.specs.Keeping.{Kept, declined, kept, Keeps, kept_in, storing, loading}
use Rattle.rules.specs.Calls.Memory.{Memory, Enough, settled}

abbrev pub kept_number : Kept → ℕ
kept_number (declined m p) = m
kept_number (kept bytes) = 0

abbrev pub kept_numbers : List ℕ → Kept → List ℕ
kept_numbers text (declined m p) = refused_numbers text m p
kept_numbers text (kept bytes) = 0 ∷ 0 ∷ 0 ∷ 0 ∷ 0 ∷ 0 ∷ 0 ∷ 0 ∷ []

-- A call that writes the buffer `target`: "1 and 2 change nothing"; else the answer is the call's on the description, and work memory is zero.
pub data KeepCall (text : List ℕ) (call : Table → Kept) (target : List ℕ) (before after : Memory) (left : List ℕ) (number : ℕ) : Type 0 where
  short_memory : (Enough before → ⊥) → number ≡ 1 → after ≡ before → left ≡ target → KeepCall text call target before after left number
  long_text : Enough before → longest_text < length text → number ≡ 2 → after ≡ before → left ≡ target → KeepCall text call target before after left number
  answer : (k : Kept) → Enough before → length text ≤ longest_text → Keeps text call k → number ≡ kept_number k → after ≡ settled (kept_numbers text k) before
      → left ≡ kept_in target k → KeepCall text call target before after left number

-- Store reads carriers and writes an image
abbrev pub StoreCall : List ℕ → List ℕ → List ℕ → Memory → Memory → List ℕ → ℕ → Type 0
StoreCall text carriers image = KeepCall text (storing carriers image) image

-- Load reads an image and writes carriers
abbrev pub LoadCall : List ℕ → List ℕ → List ℕ → Memory → Memory → List ℕ → ℕ → Type 0
LoadCall text image carriers = KeepCall text (loading image carriers) carriers
