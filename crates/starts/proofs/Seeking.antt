-- Laws of the search for a word with a bit above its length.
-- Assumes nothing.
use Prim.Native.Nat.{ℕ, ◌+◌, ◌*◌, ◌/◌, ◌^◌, ◌<◌, ◌≤◌}
use mathlib.Core.Path.{◌≡◌, sym, ◌∙◌}
use mathlib.Core.Bool.{Bool, true, false}
use mathlib.Core.List.{List}
use native.Mathlib.Omega.{arith}
use native.Mathlib.Decide.{dec_lt}
use borrow.Author.Tests.{lt-ltb, le-ltb, le-leb, lt-leb, leb-true, leb-false}
use lib.Dec.{leb, ltb}
use lib.Pow.{pow-add, shr_lt, shr_mono, shl-shr}
use Rattle.cells.specs.Cells.{cell}
use Rattle.starts.specs.Sought.{Sought}

-- what is left of a word above its lowest bits
pub long_test : (w n : ℕ) → ltb 1 (w / 2 ^ n) ≡ leb (2 ^ (n + 1)) w
long_test w n = by (dec_lt w (2 ^ (n + 1)))
  where
    by : Dec (w < 2 ^ (n + 1)) → ltb 1 (w / 2 ^ n) ≡ leb (2 ^ (n + 1)) w
    by (yes l) =
        let few : w / 2 ^ n < 2 ^ 1 = shr_lt 1 n (omega (arith, pow-add 2 1 n, pow-add 2 n 1)) in
        le-ltb 1 (w / 2 ^ n) (omega arith) ∙ sym (lt-leb (2 ^ (n + 1)) w l)
    by (no f) =
        let many : 2 * 2 ^ n / 2 ^ n ≤ w / 2 ^ n = shr_mono n (omega (arith, pow-add 2 n 1)) in
        lt-ltb 1 (w / 2 ^ n) (omega (arith, shl-shr 2 n)) ∙ sym (le-leb (2 ^ (n + 1)) w (omega arith))

-- the words before i are sought through
pub none_sought : (b : List ℕ) (at bits : ℕ) → Sought b at at bits at
none_sought b at bits = record { least = omega arith; most = omega arith; fit = λ i l h. absurd (omega arith); long = λ h. absurd (omega arith) }

module _ {b : List ℕ} {at i bits : ℕ} (s : Sought b at i bits i) where
  pub all_sought : {end : ℕ} → i ≤ end → end ≤ i → Sought b at end bits end
  all_sought {end} l h = let e : i ≡ end = omega arith in rw e at s

  module _ {w : ℕ} {t : Bool} (is : w ≡ cell 8 b i) (test : t ≡ leb (2 ^ bits) w) where
    pub long_here : {end : ℕ} → i < end → t ≡ true → Sought b at end bits i
    long_here l y = record { least = s.least; most = omega arith; fit = s.fit; long = λ h. rw is at (leb-true (2 ^ bits) w (sym test ∙ y)) }

    pub sought_more : t ≡ false → Sought b at (i + 1) bits (i + 1)
    sought_more n = record { least = omega (arith, s.least); most = omega arith; fit = λ j l h. by j l (dec_lt j i) h; long = λ h. absurd (omega arith) }
      where
        by : (j : ℕ) → at ≤ j → Dec (j < i) → j < i + 1 → cell 8 b j < 2 ^ bits
        by j l (yes h) k = s.fit j l h
        by j l (no f) k = let e : i ≡ j = omega arith in rw (← e) (rw is at (leb-false (2 ^ bits) w (sym test ∙ n)))
