-- `destinations::repeat_key` meets its contract: no carrier, one that is not stored to yet, or 46.
-- Assumes nothing.
use borrow.Author.Rules.{rules}
use native.Mathlib.Omega.{arith}
use mathlib.Core.Path.{◌≡◌, sym, ◌∙◌}
use mathlib.Core.Bool.{Bool, true, false}
use mathlib.Core.List.{List}
use Prim.Native.Nat.{ℕ, ◌≤◌}
use Rattle.rules.specs.Faults.Fault.{fault, when}
use Rattle.keys.specs.Keys.{key, no_key, least_by, least_key}
use Rattle.destinations.specs.Carriers.{holds}
use Rattle.destinations.specs.Destinations.{repeats}
use Rattle.std.specs.Prelude.{Option, Some, None}
use Rattle.destinations.proofs.repeat_key.Goals as goal

module _ (w : List ℕ) (p : ℕ) {t : Option ℕ} where
  nothing : t ≡ None → no_key ≡ least_key (when (repeats w t) 46 p)
  unfolding least_by
  nothing told = rw told

  module _ (k : ℕ) (told : t ≡ Some k) {b : Bool} (e : b ≡ holds w k) where
    new : b ≡ false → no_key ≡ least_key (when (repeats w t) 46 p)
    unfolding least_by
    new h = rw (told, sym e ∙ h)

    again : b ≡ true → (q r : ℕ) → q ≡ p → p ≤ 32768 → r ≡ key (fault 46 q) → r ≡ least_key (when (repeats w t) 46 p)
    unfolding least_by
    again h q r eq l er = rw (told, sym e ∙ h) (omega arith)

pub returns-in-Some : goal.returns-in-Some
returns-in-Some c = search (rules, again)

pub returns-in_default : goal.returns-in_default
returns-in_default c = search (rules, new)

pub returns-in_default-2 : goal.returns-in_default-2
returns-in_default-2 c = search (rules, nothing)
