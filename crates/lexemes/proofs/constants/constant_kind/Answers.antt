-- `lexemes::constants::constant_kind` meets its contract.
-- Assumes nothing.
use mathlib.Core.Path.{◌≡◌, refl}
use Prim.Native.Nat.{ℕ, zero, suc}
use Rattle.lexemes.specs.Numbers.{free_kind}
use Rattle.lexemes.proofs.constants.constant_kind.Goals as goal

masked : (f : ℕ) → (f ≡ 0 → ⊥) → 2 ≡ free_kind f
masked zero h = absurd (h refl)
masked (suc f) h = refl

pub returns-then-free-eq0 : goal.returns-then-free-eq0
returns-then-free-eq0 c = rw c.if-free-eq0.true

pub returns-else-free-eq0 : goal.returns-else-free-eq0
returns-else-free-eq0 c = masked _ c.if-free-eq0.false
