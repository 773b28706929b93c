-- `text::value_cell` meets its contract: each return has the tests of `value_by`.
-- Assumes nothing.
use borrow.Author.Tests.{ne_eqb}
use mathlib.Core.Path.{◌≡◌}
use Prim.Native.Nat.{ℕ}
use Rattle.text.specs.Table.{value_by}
use Rattle.text.proofs.value_cell.Goals as goal

other : (k v b : ℕ) → (k ≡ 1 → ⊥) → (k ≡ 2 → ⊥) → b ≡ value_by k v b
unfolding value_by
other k v b p q = rw (ne_eqb k 1 p, ne_eqb k 2 q, value_by)

pub returns-then-kind-eq-CONST : goal.returns-then-kind-eq-CONST
unfolding value_by
returns-then-kind-eq-CONST c = rw c.if-kind-eq-CONST.true

pub returns-then-kind-eq-MASKED : goal.returns-then-kind-eq-MASKED
unfolding value_by
returns-then-kind-eq-MASKED c = rw c.if-kind-eq-MASKED.true

pub returns : goal.returns
unfolding value_by
returns c = other _ _ _ c.if-kind-eq-CONST.false c.if-kind-eq-MASKED.false
