-- `pair_tables::words::same_runs` meets its contract: what is left of the two runs is the same iff the two runs are.
-- Assumes nothing.
use borrow.Author.Rules.{rules}
use native.Mathlib.Nat.{add-zero, sub-zero}
use native.Mathlib.Omega.{arith}
use mathlib.Core.Path.{◌≡◌, sym, ◌∙◌}
use mathlib.Core.Bool.{true, false}
use mathlib.Core.List.{List}
use Prim.Native.Nat.{ℕ, ◌+◌, ◌-◌, ◌<◌, ◌≤◌}
use lib.ListN.{length, get_or}
use Rattle.rules.specs.Text.Bytes.{fold}
use Rattle.rules.specs.Text.Scan.{same_bytes}
use Rattle.records.specs.Holds.{folded_at}
use Rattle.pair_tables.specs.Laws.Words.{same_next, differ_next, same_end}
use Rattle.pair_tables.proofs.words.same_runs.Invariants.{Inv}
use Rattle.pair_tables.proofs.words.same_runs.Goals as goal

module _ {text₀ text₁ : List ℕ} {a b n k : ℕ} (inv : Inv text₀ text₁ a b n k) (ha : a + n ≤ length text₀) (hb : b + n ≤ length text₁) where
  differ : {x y : ℕ} → k < n → x ≡ fold (get_or text₀ (a + k) 0) → y ≡ fold (get_or text₁ (b + k) 0) → (x ≡ y → ⊥)
      → false ≡ same_bytes (folded_at text₀ a n) (folded_at text₁ b n)
  differ h e f d = sym (differ_next text₀ text₁ a b n k ha hb h (λ g. d (e ∙ g ∙ sym f))) ∙ inv.left

  passed : {x y : ℕ} → k < n → x ≡ fold (get_or text₀ (a + k) 0) → y ≡ fold (get_or text₁ (b + k) 0) → x ≡ y → Inv text₀ text₁ a b n (k + 1)
  passed h e f g = record {
    within = omega arith;
    left = sym (same_next text₀ text₁ a b n k ha hb h (sym e ∙ g ∙ f)) ∙ inv.left;
  }

  ended : n ≤ k → true ≡ same_bytes (folded_at text₀ a n) (folded_at text₁ b n)
  ended h = sym (same_end text₀ text₁ a b n k h) ∙ inv.left

start : (text₀ text₁ : List ℕ) (a b n : ℕ) → Inv text₀ text₁ a b n 0
start text₀ text₁ a b n = record { within = omega arith; left = simp (add-zero, sub-zero) }

pub loop-k-init : goal.loop-k-init
loop-k-init c = search (rules, start)

pub returns-then-x-y : goal.returns-then-x-y
returns-then-x-y c =
    differ c.loop-k.invariant c.requires.0 c.requires.1 c.loop-k-test.true c.upper-x.ensures c.upper-y.ensures
    c.if-x-y.true

pub loop-k-preserved : goal.loop-k-preserved
loop-k-preserved c =
    passed c.loop-k.invariant c.requires.0 c.requires.1 c.loop-k-test.true c.upper-x.ensures c.upper-y.ensures
    c.if-x-y.false

pub returns : goal.returns
returns c = search (rules, ended)
