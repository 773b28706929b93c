-- `operands::accesses::from_left` meets its contract: n lies below the names, above them or among them, and they go up or down.
-- Assumes nothing.
use borrow.Author.Tests.{le-leb, lt-leb, leb-true, leb-false}
use native.Mathlib.Omega.{arith}
use mathlib.Core.Path.{◌≡◌, refl, ap}
use Rattle.std.specs.Int.{abs_diff}
use Prim.Native.Nat.{ℕ, ◌-◌, ◌<◌, ◌≤◌, min, max}
use Rattle.rules.specs.Declarations.{names, from_left}
use Rattle.std.specs.Prelude.{Some, None, Bool, true, false, leb}
use Rattle.operands.specs.Cells.{shown_word}
use Rattle.operands.proofs.accesses.from_left.Goals as goal
use Rattle.operands.proofs.accesses.from_left.Goals.{then-n-min-via-then-n-min, then-n-min-via-else-n-min+then-max-n}

module _ (l r n : ℕ) where
  below : n < min l r → None ≡ shown_word (from_left (names l r) n)
  unfolding from_left
  below h = rw (from_left, lt-leb (min l r) n h) refl

  above : min l r ≤ n → max l r < n → None ≡ shown_word (from_left (names l r) n)
  unfolding from_left
  above h g = rw (from_left, le-leb (min l r) n h, lt-leb n (max l r) g) refl

  among : min l r ≤ n → n ≤ max l r → Some (abs_diff n l) ≡ shown_word (from_left (names l r) n)
  unfolding from_left
  among h g = by (leb l r) refl
    where
      by : (t : Bool) → leb l r ≡ t → Some (abs_diff n l) ≡ shown_word (from_left (names l r) n)
      by true e =
          let w = leb-true l r e in
          let d : abs_diff n l ≡ n - l = omega arith in
          rw (from_left, le-leb (min l r) n h, le-leb n (max l r) g, e) (ap Some d)
      by false e =
          let w = leb-false l r e in
          let d : abs_diff n l ≡ l - n = omega arith in
          rw (from_left, le-leb (min l r) n h, le-leb n (max l r) g, e) (ap Some d)

pub returns-then-n-min : goal.returns-then-n-min
returns-then-n-min c = elim c.then-n-min.branch [
  | then-n-min-via-then-n-min w ↦ below _ _ _ (omega arith)
  | then-n-min-via-else-n-min+then-max-n w ↦ above _ _ _ (omega arith) (omega arith)
]

pub returns : goal.returns
returns c = rw c.abs_diff.ensures (among _ _ _ (omega arith) (omega arith))
