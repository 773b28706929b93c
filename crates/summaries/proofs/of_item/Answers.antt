-- `summaries::of_item` meets its contract.
-- Assumes nothing.
use borrow.Author.Rules.{rules}
use mathlib.Core.Path.{◌≡◌}
use mathlib.Core.List.{[], ◌∷◌}
use Prim.Native.Nat.{ℕ, ◌+◌, ◌-◌, ◌^◌, ◌<◌}
use lib.Bits.{bit_and}
use Rattle.patterns.specs.declared.items.Item.{Item}
use Rattle.patterns.specs.declared.items.Item.TheVariants.{Pattern, Between}
use Rattle.patterns.specs.Items.{meant}
use Rattle.summaries.specs.Summaries.{Bounded, Tells}
use Rattle.summaries.specs.Laws.Summaries.{tells_pattern, tells_value, tells_range, tells_nothing}
use Rattle.summaries.proofs.of_item.Goals as goal

module _ (i : Item) (bounded : Bounded (meant i)) where
  fits : (v f : ℕ) → i ≡ Pattern v f → v + f < 2 ^ 64
  fits v f e = rw e at bounded

  by_pattern : (v f : ℕ) → i ≡ Pattern v f → bit_and v f ≡ 0 → Tells (meant i ∷ []) (record { low = v; high = v + f; value = v; free = f })
  by_pattern v f e apart = rw e (tells_pattern v f (fits v f e) apart)

  by_value : (l h : ℕ) → i ≡ Between l h → l ≡ h → Tells (meant i ∷ []) (record { low = l; high = h; value = l; free = 0 })
  by_value l h e same = rw e (tells_value l h (rw e at bounded) same)

  by_range : (l h : ℕ) → i ≡ Between l h → Tells (meant i ∷ []) (record { low = l; high = h; value = 0; free = 2 ^ 64 - 1 })
  by_range l h e = rw e (tells_range l h (rw e at bounded) 0)

pub returns-then-value-free-ne0 : goal.returns-then-value-free-ne0
returns-then-value-free-ne0 c = search (rules, tells_nothing)

pub overflow_add-result : goal.overflow_add-result
overflow_add-result c = search (rules, fits)

pub returns-then-low-high : goal.returns-then-low-high
returns-then-low-high c = search (rules, by_value)

pub returns-else-value-free-ne0 : goal.returns-else-value-free-ne0
returns-else-value-free-ne0 c = search (rules, by_pattern)

pub returns-else-low-high : goal.returns-else-low-high
returns-else-low-high c = search (rules, by_range)
