-- The members from one on: how many there are, and the one that is so many above.
use Prim.Native.Nat.{ℕ, zero, suc, ◌+◌, ◌-◌, ◌≤◌, ◌<◌}
use Rattle.std.specs.Prelude.{◌≡◌}
use Rattle.std.proofs.Math.Path.{refl, ap, ap₂}
use Rattle.std.proofs.Common.{sym}
use native.Mathlib.Omega.{arith}
use Rattle.std.proofs.Math.ListN.{length}
use Rattle.rules.specs.Limits.{deepest}
use Rattle.laws_orders.proofs.Orders.Tests.{impossible}
use Rattle.telling.specs.Cited.Cells.{Cells, up_from}
use Rattle.passing.specs.Climbing.{up_by}

module _ (K : Cells) where
  -- d members are counted from x on, and `at` is the next one
  pub record Counted (x at d : ℕ) : Type 0 where
    pub few : d ≤ deepest
    pub all : length (up_from K (deepest - d) at) + d ≡ length (up_from K deepest x)

  none_above : (f : ℕ) → length (up_from K f 0) ≡ 0
  unfolding up_from
  none_above zero = refl
  none_above (suc f) = refl

  one_above : (f at : ℕ) → 0 < f → (at ≡ 0 → ⊥) → length (up_from K f at) ≡ suc (length (up_from K (f - 1) (K.up at)))
  unfolding up_from
  one_above zero at h n = impossible (omega arith)
  one_above (suc f) zero h n = absurd (n refl)
  one_above (suc f) (suc at) h n = let p : f ≡ suc f - 1 = omega arith in ap (λ k. suc (length (up_from K k (K.up (suc at))))) p

  pub none_counted : (x : ℕ) → Counted x x 0
  none_counted x = record { few = omega arith; all = omega arith }

  module _ {x at d : ℕ} (w : Counted x at d) where
    pub one_counted : {u : ℕ} → d < deepest → (at ≡ 0 → ⊥) → u ≡ K.up at → Counted x u (d + 1)
    one_counted h n e =
        let p : deepest - d - 1 ≡ deepest - (d + 1) = omega arith in
        record { few = omega arith; all = omega (arith, w.all, one_above (deepest - d) at (omega arith) n, ap₂ (λ k v. length (up_from K k v)) p (sym e)) }

    pub top_reached : at ≡ 0 → d ≡ length (up_from K deepest x)
    top_reached e = omega (arith, w.all, ap (λ v. length (up_from K (deepest - d) v)) e, none_above (deepest - d))

    pub all_counted : deepest ≤ d → d ≡ length (up_from K deepest x)
    unfolding up_from
    all_counted h = let p : deepest - d ≡ 0 = omega arith in omega (arith, w.all, ap (λ k. length (up_from K k at)) p)

  pub up_none : (k at : ℕ) → k ≤ 0 → at ≡ up_by K k at
  unfolding up_by
  up_none zero at h = refl
  up_none (suc k) at h = impossible (omega arith)

  pub up_one : (k at : ℕ) {u : ℕ} → 0 < k → u ≡ K.up at → up_by K (k - 1) u ≡ up_by K k at
  unfolding up_by
  up_one zero at h e = impossible (omega arith)
  up_one (suc k) at h e = let p : suc k - 1 ≡ k = omega arith in ap₂ (up_by K) p e
