-- `accesses::lengths::access_length` meets its contract.
-- Assumes nothing.
use borrow.Author.Rules.{rules}
use mathlib.Core.Path.{◌≡◌}
use Rattle.std.specs.Prelude.{Option}
use Prim.Native.Nat.{ℕ}
use Rattle.table.specs.declared.views.Names.{Names}
use Rattle.table.specs.declared.views.Names.TheVariants.{Span}
use Rattle.accesses.specs.Lengths.{part_length, access_length}
use Rattle.accesses.proofs.lengths.access_length.Goals as goal

given_bits : (own : Names) {given : Names} (l r : ℕ) (n : Option ℕ) → given ≡ Span l r → n ≡ part_length own l r → n ≡ access_length own given
given_bits own l r n told e = rw told e

pub returns-in-Span : goal.returns-in-Span
returns-in-Span c = search (rules, given_bits)
