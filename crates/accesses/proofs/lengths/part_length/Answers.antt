-- `accesses::lengths::part_length` meets its contract: bits inside others are no more than they, so they can be counted.
-- Assumes nothing.
use borrow.Author.Rules.{rules}
use native.Mathlib.Omega.{arith}
use mathlib.Core.Path.{◌≡◌, refl, sym, ◌∙◌}
use mathlib.Core.Bool.{Bool, true, false}
use Rattle.std.specs.Prelude.{Some, None}
use Prim.Native.Nat.{ℕ, ◌≤◌}
use Rattle.rules.specs.Declarations.{names, these, how_many}
use Rattle.rules.specs.Faults.Declared.{inside}
use Rattle.table.specs.declared.views.Names.{Names}
use Rattle.table.specs.declared.views.Names.TheVariants.{Span}
use Rattle.accesses.specs.Lengths.{Short, part_length}
use Rattle.accesses.specs.Laws.Lengths.{inside_fewer}
use Rattle.accesses.proofs.lengths.part_length.Goals as goal

module _ {own : Names} (left right l r : ℕ) (told : own ≡ Span left right) {t : Bool} (e : t ≡ inside (these (names left right)) (names l r)) where
  outside : t ≡ false → None ≡ part_length own l r
  outside h = rw (told, sym e ∙ h) refl

  module _ (h : t ≡ true) where
    counted : Short own → how_many (names l r) ≤ 64
    counted s = let q = rw told at s in omega (arith, inside_fewer (names left right) (names l r) (sym e ∙ h), q.0)

    part : (n : ℕ) → n ≡ how_many (names l r) → Some n ≡ part_length own l r
    part n q = rw (told, sym e ∙ h, q) refl

pub returns-in_default : goal.returns-in_default
returns-in_default c = search (rules, outside)

pub how_many-requires : goal.how_many-requires
how_many-requires c = search (rules, counted)

pub returns-in-Span : goal.returns-in-Span
returns-in-Span c = search (rules, part)
