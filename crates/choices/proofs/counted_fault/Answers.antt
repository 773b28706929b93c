-- `choices::counted_fault` meets its contract: the number is the item from it to itself.
-- Assumes nothing.
use mathlib.Core.Path.{◌≡◌, sym}
use mathlib.Core.Bool.{or-false}
use mathlib.Core.List.{[], ◌∷◌}
use Prim.Native.Nat.{ℕ, ◌^◌, ◌<◌, ◌≤◌}
use lib.Dec.{leb}
use Rattle.rules.specs.Selectors.{between, highest}
use Rattle.rules.specs.Faults.Bodies.{past}
use Rattle.choices.proofs.counted_fault.Goals as goal

own_highest : (k n : ℕ) → n ≤ 64 → k < 2 ^ 64 → (n ≤ 64) × (highest (between k k) < 2 ^ 64)
unfolding highest
own_highest k n h l = (h, l)

alone : (k n : ℕ) → leb (2 ^ n) (highest (between k k)) ≡ past n (between k k ∷ [])
unfolding past
alone k n = sym (or-false (leb (2 ^ n) (highest (between k k))))

pub past-requires : goal.past-requires
past-requires c = own_highest _ _ c.requires.2 c.ranges.number.fits

pub returns : goal.returns
returns c = rw (← alone _ _, ← c.past.ensures) c.choice_fault.ensures
