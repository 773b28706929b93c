-- `records::words::same_run` meets its contract: what is left of the two runs is the same iff the two runs are.
-- Assumes nothing.
use borrow.Author.Rules.{rules}
use native.Mathlib.Nat.{add-zero, sub-zero}
use native.Mathlib.Omega.{arith}
use mathlib.Core.Path.{◌≡◌, sym, ◌∙◌}
use mathlib.Core.Bool.{true, false}
use mathlib.Core.List.{List}
use Prim.Native.Nat.{ℕ, ◌+◌, ◌<◌, ◌≤◌}
use lib.ListN.{length, get_or}
use Rattle.rules.specs.Text.Bytes.{fold}
use Rattle.rules.specs.Text.Scan.{same_bytes}
use Rattle.records.specs.Holds.{folded_at}
use Rattle.records.specs.Laws.Words.{same_next, differ_next, same_end}
use Rattle.records.proofs.words.same_run.Invariants.{Inv}
use Rattle.records.proofs.words.same_run.Goals as goal

module _ {text : List ℕ} {a b n k : ℕ} (inv : Inv text a b n k) (ha : a + n ≤ length text) (hb : b + n ≤ length text) where
  differ : {x y : ℕ} → k < n → x ≡ fold (get_or text (a + k) 0) → y ≡ fold (get_or text (b + k) 0) → (x ≡ y → ⊥)
      → false ≡ same_bytes (folded_at text a n) (folded_at text b n)
  differ h e f d = sym (differ_next text a b n k ha hb h (λ g. d (e ∙ g ∙ sym f))) ∙ inv.left

  passed : {x y : ℕ} → k < n → x ≡ fold (get_or text (a + k) 0) → y ≡ fold (get_or text (b + k) 0) → x ≡ y → Inv text a b n (k + 1)
  passed h e f g = record {
    within = omega arith;
    left = sym (same_next text a b n k ha hb h (sym e ∙ g ∙ f)) ∙ inv.left;
  }

  ended : n ≤ k → true ≡ same_bytes (folded_at text a n) (folded_at text b n)
  ended h = sym (same_end text a b n k h) ∙ inv.left

start : (text : List ℕ) (a b n : ℕ) → Inv text a b n 0
start text a b n = record { within = omega arith; left = simp (add-zero, sub-zero) }

pub loop-k-init : goal.loop-k-init
loop-k-init c = search (rules, start)

pub returns-then-x-y : goal.returns-then-x-y
returns-then-x-y c = search (rules, differ)

pub loop-k-preserved : goal.loop-k-preserved
loop-k-preserved c = search (rules, passed)

pub returns : goal.returns
returns c = search (rules, ended)
