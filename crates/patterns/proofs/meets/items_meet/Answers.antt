-- `patterns::meets::items_meet` meets its contract.
-- Assumes nothing.
use borrow.Author.Rules.{rules}
use mathlib.Core.Path.{◌≡◌, refl}
use mathlib.Core.Bool.{Bool}
use Prim.Native.Nat.{ℕ, max, min}
use lib.Dec.{leb}
use Rattle.rules.specs.Faults.Bodies.{patterns_meet, items_meet, reaches}
use Rattle.patterns.specs.declared.items.Item.{Item}
use Rattle.patterns.specs.declared.items.Item.TheVariants.{Pattern, Between}
use Rattle.patterns.specs.Items.{meant}
use Rattle.patterns.proofs.meets.items_meet.Goals as goal

module _ (a b : Item) (r : Bool) where
  patterns : (v f w g : ℕ) → a ≡ Pattern v f → b ≡ Pattern w g → r ≡ patterns_meet 64 v f w g → r ≡ items_meet (meant a) (meant b)
  unfolding items_meet
  patterns v f w g p q e = rw (p, q) e

  pattern_range : (v f l h : ℕ) → a ≡ Pattern v f → b ≡ Between l h → r ≡ reaches 64 v f l h → r ≡ items_meet (meant a) (meant b)
  unfolding items_meet
  pattern_range v f l h p q e = rw (p, q) e

  range_pattern : (v f l h : ℕ) → a ≡ Between l h → b ≡ Pattern v f → r ≡ reaches 64 v f l h → r ≡ items_meet (meant a) (meant b)
  unfolding items_meet
  range_pattern v f l h p q e = rw (p, q) e

ranges : (a b : Item) (l h m k x y : ℕ) → a ≡ Between l h → b ≡ Between m k → x ≡ max l m → y ≡ min h k → leb x y ≡ items_meet (meant a) (meant b)
unfolding items_meet
ranges a b l h m k x y p q e d = rw (p, q, e, d) refl

pub returns-in-Pattern-b : goal.returns-in-Pattern-b
returns-in-Pattern-b c = search (rules, patterns)

pub returns-in-Between-b : goal.returns-in-Between-b
returns-in-Between-b c = search (rules, pattern_range)

pub returns-in-Pattern-b-2 : goal.returns-in-Pattern-b-2
returns-in-Pattern-b-2 c = search (rules, range_pattern)

pub returns-in-Between-b-2 : goal.returns-in-Between-b-2
returns-in-Between-b-2 c = search (rules, ranges)
