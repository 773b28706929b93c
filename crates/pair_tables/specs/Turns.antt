-- The list of turns, by its first bad one.
use Rattle.std.specs.Prelude.{ℕ, ◌<◌, ◌≤◌, ◌≡◌, List, length}
use Rattle.std.proofs.Math.Option.{none, some}
use Rattle.rules.specs.Faults.Fault.{fault}
use Rattle.rules.specs.Pair.{fault81}

-- r is the offset of the first turn over 1, or the number of turns
pub record FirstBad (turns : List ℕ) (r : ℕ) : Type 0 where
  pub bad : r < length turns → fault81 0 turns ≡ some (fault 81 r)
  pub none_bad : length turns ≤ r → fault81 0 turns ≡ none
