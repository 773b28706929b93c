-- Whether memory is enough and both texts are short enough, as the code finds it.
use Rattle.std.specs.Prelude.{ℕ, ◌<◌, ◌≤◌, List, ◌⊎◌, length, Option, Some, None}
use Rattle.rules.specs.Limits.{longest_text}
use Rattle.rules.specs.Calls.Memory.{Memory}
use Rattle.rules.specs.Calls.Pair.{MoreMemory, PairMemory}

-- the number of the refusal for which no text is read, if there is one
pub data Unread (first second : List ℕ) (m : Memory) (r : MoreMemory) : Option ℕ → Type 0 where
  short_memory : (PairMemory m r → ⊥) → Unread first second m r (Some 1)
  long_text : PairMemory m r → (longest_text < length first) ⊎ (longest_text < length second) → Unread first second m r (Some 2)
  none : PairMemory m r → length first ≤ longest_text → length second ≤ longest_text → Unread first second m r None
