-- `patterns::items::highest` meets its contract.
-- Assumes nothing.
use borrow.Author.Rules.{rules}
use native.Mathlib.Omega.{arith}
use mathlib.Core.Path.{◌≡◌, refl}
use Prim.Native.Nat.{ℕ, ◌+◌, ◌<◌, ◌^◌}
use Rattle.rules.specs.Selectors as rules
use Rattle.patterns.specs.declared.items.Item.{Item}
use Rattle.patterns.specs.declared.items.Item.TheVariants.{Pattern, Between}
use Rattle.patterns.specs.Items.{meant}
use Rattle.patterns.proofs.items.highest.Goals as goal

sum : (i : Item) (v f : ℕ) → i ≡ Pattern v f → v + f ≡ rules.highest (meant i)
unfolding rules.highest
sum i v f e = rw e refl

fits : (i : Item) (v f : ℕ) → i ≡ Pattern v f → rules.highest (meant i) < 2 ^ 64 → v + f < 2 ^ 64
fits i v f e h = omega (arith, sum i v f e)

bound : (i : Item) (l h : ℕ) → i ≡ Between l h → h ≡ rules.highest (meant i)
unfolding rules.highest
bound i l h e = rw e refl

pub overflow_add-result : goal.overflow_add-result
overflow_add-result c = search (rules, fits)

pub returns-in-Pattern : goal.returns-in-Pattern
returns-in-Pattern c = search (rules, sum)

pub returns-in-Between : goal.returns-in-Between
returns-in-Between c = search (rules, bound)
