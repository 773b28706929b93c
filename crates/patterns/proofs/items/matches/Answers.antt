-- `patterns::items::matches` meets its contract.
-- Assumes nothing.
use borrow.Author.Rules.{rules}
use mathlib.Core.Path.{◌≡◌, refl, sym, ◌∙◌}
use mathlib.Core.Bool.{Bool, ◌&&◌}
use Prim.Native.Nat.{ℕ}
use lib.Dec.{leb}
use Rattle.rules.specs.Selectors as rules
use Rattle.rules.specs.Faults.Bodies.{patterns_meet}
use Rattle.patterns.specs.declared.items.Item.{Item}
use Rattle.patterns.specs.declared.items.Item.TheVariants.{Pattern, Between}
use Rattle.patterns.specs.Items.{meant}
use Rattle.patterns.specs.Laws.Patterns.{agree_meets}
use Rattle.patterns.proofs.items.matches.Goals as goal

by_pattern : (i : Item) (v f x : ℕ) (r : Bool) → i ≡ Pattern v f → r ≡ patterns_meet 64 v f x 0 → r ≡ rules.matches (meant i) x
unfolding rules.matches
by_pattern i v f x r e h = rw e (h ∙ sym (agree_meets 64 v f x))

by_range : (i : Item) (l h x : ℕ) → i ≡ Between l h → leb l x && leb x h ≡ rules.matches (meant i) x
unfolding rules.matches
by_range i l h x e = rw e refl

pub returns-in-Pattern : goal.returns-in-Pattern
returns-in-Pattern c = search (rules, by_pattern)

pub returns-in-Between : goal.returns-in-Between
returns-in-Between c = search (rules, by_range)
