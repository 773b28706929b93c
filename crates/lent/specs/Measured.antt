-- Whether memory is enough and the text short enough, as the code finds it.
use Rattle.std.specs.Prelude.{ℕ, ◌<◌, ◌≤◌, Bool, true, false, List, length, Option, Some, None}
use Rattle.rules.specs.Limits.{longest_text}
use Rattle.rules.specs.Calls.Memory.{Memory, Enough}

abbrev pub Measured : Memory → Bool → Type 0
Measured m true = Enough m
Measured m false = Enough m → ⊥

-- the number of the refusal for which the text is not even read, if there is one
pub data Unread (text : List ℕ) (m : Memory) : Option ℕ → Type 0 where
  short_memory : (Enough m → ⊥) → Unread text m (Some 1)
  long_text : Enough m → longest_text < length text → Unread text m (Some 2)
  none : Enough m → length text ≤ longest_text → Unread text m None
