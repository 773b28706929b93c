-- `accesses::lengths::own_length` meets its contract.
-- Assumes nothing.
use borrow.Author.Rules.{rules}
use mathlib.Core.Path.{◌≡◌, refl}
use Rattle.std.specs.Prelude.{Some}
use Prim.Native.Nat.{ℕ, ◌≤◌}
use Rattle.rules.specs.Declarations.{names, how_many}
use Rattle.table.specs.declared.views.Names.{Names}
use Rattle.table.specs.declared.views.Names.TheVariants.{Span}
use Rattle.accesses.specs.Lengths.{Short, own_length}
use Rattle.accesses.proofs.lengths.own_length.Goals as goal

module _ {own : Names} (l r : ℕ) (told : own ≡ Span l r) where
  counted : Short own → how_many (names l r) ≤ 64
  counted s = let q = rw told at s in q.0

  all : (n : ℕ) → n ≡ how_many (names l r) → Some n ≡ own_length own
  all n q = rw (told, q) refl

pub how_many-requires : goal.how_many-requires
how_many-requires c = search (rules, counted)

pub returns-in-Span : goal.returns-in-Span
returns-in-Span c = search (rules, all)
