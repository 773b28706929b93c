-- Laws of sets as four words: their members, before and after one is added.
-- Assumes nothing.
use Rattle.std.specs.Prelude.{ℕ, zero, suc, ◌+◌, ◌-◌, ◌*◌, ◌/◌, ◌%◌, ◌^◌, ◌<◌, max, ◌≡◌, refl, false, ◌||◌, List, length, replicate}
use Rattle.std.proofs.Common.{sym, ◌∙◌, mul-div_cancel, pow-suc, eq-eqb, ne_eqb, pow_pos, pow-add, get_or-set_other}
use Rattle.std.proofs.Math.Path.{ap}
use native.Mathlib.Omega.{arith}
use Rattle.std.proofs.Math.Nat.{div_self, div-eq_of_lt, mul-mod_left, zero-div}
use Rattle.std.proofs.Math.Decide.{dec_lt}
use Rattle.std.specs.Int.Bits.{bit_or, or_step}
use Rattle.std.proofs.lemmas.Nat.{or_shr}
use Rattle.std.proofs.Math.Dec.{eqb}
use Rattle.std.proofs.Math.ListN.{get_or, length-set}
use Rattle.std.proofs.Math.Pow.{pow-lt}
use Rattle.std.proofs.Math.Seq.{get_or-set_same}
use Rattle.destinations.specs.Carriers.{holds, added}

-- the bits of a power of two
module _ (r : ℕ) where
  power_bit : 2 ^ r / 2 ^ r % 2 ≡ 1
  power_bit = rw (div_self (pow_pos r))

  other_bit : (s : ℕ) → (r ≡ s → ⊥) → 2 ^ r / 2 ^ s % 2 ≡ 0
  other_bit s n = go (dec_lt r s)
    where
      go : Dec (r < s) → 2 ^ r / 2 ^ s % 2 ≡ 0
      go (yes h) = rw (div-eq_of_lt (pow-lt h))
      go (no h) =
          let k = r - s - 1 in
          let e : r ≡ suc k + s = omega (arith, n) in
          rw (e, pow-add 2 (suc k) s, mul-div_cancel (2 ^ suc k) (pow_pos s), pow-suc) (mul-mod_left (2 ^ k) 2)

low : (z q m : ℕ) → z ≡ q * 2 + m → m < 2 → z % 2 ≡ m
low z q m e h = omega arith

or_bit : (a b k : ℕ) → bit_or a b / 2 ^ k % 2 ≡ max (a / 2 ^ k % 2) (b / 2 ^ k % 2)
or_bit a b k = rw or_shr (low _ _ _ (or_step (a / 2 ^ k) (b / 2 ^ k)) (omega arith))

nothing_there : (k : ℕ) → ◌≡◌ {A = ℕ} (get_or (replicate 4 0) k 0) 0
nothing_there zero = refl
nothing_there (suc zero) = refl
nothing_there (suc (suc zero)) = refl
nothing_there (suc (suc (suc zero))) = refl
nothing_there (suc (suc (suc (suc k)))) = refl

pub none_held : (i : ℕ) → holds (replicate 4 0) i ≡ false
unfolding holds
none_held i = rw (nothing_there (i / 64), zero-div)

module _ (w : List ℕ) (i : ℕ) (long : length w ≡ 4) (small : i < 256) where
  pub added_long : length (added w i) ≡ 4
  unfolding added
  added_long = length-set w (i / 64) _ ∙ long

  here : get_or (added w i) (i / 64) 0 ≡ bit_or (get_or w (i / 64) 0) (2 ^ (i % 64))
  unfolding added
  here = get_or-set_same w (i / 64) _ 0 (omega arith)

  pub added_held : (j : ℕ) → holds (added w i) j ≡ eqb j i || holds w j
  unfolding holds added
  added_held j = go (dec_lt j i) (dec_lt i j)
    where
      -- another bit of the same word, or another word
      other : (j ≡ i → ⊥) → Dec (j / 64 < i / 64) → Dec (i / 64 < j / 64) → holds (added w i) j ≡ holds w j
      other n (yes l) _ = ap (λ x. eqb (x / 2 ^ (j % 64) % 2) 1) (get_or-set_other w (i / 64) (j / 64) _ 0 (λ e. omega arith))
      other n (no _) (yes l) = ap (λ x. eqb (x / 2 ^ (j % 64) % 2) 1) (get_or-set_other w (i / 64) (j / 64) _ 0 (λ e. omega arith))
      other n (no a) (no b) =
          let e : j / 64 ≡ i / 64 = omega arith in
          let same : bit_or (get_or w (i / 64) 0) (2 ^ (i % 64)) / 2 ^ (j % 64) % 2 ≡ get_or w (i / 64) 0 / 2 ^ (j % 64) % 2
          = omega (arith, or_bit (get_or w (i / 64) 0) (2 ^ (i % 64)) (j % 64), other_bit (i % 64) (j % 64) (λ z. n (omega arith))) in
          ap (λ k. eqb (get_or (added w i) k 0 / 2 ^ (j % 64) % 2) 1) e
          ∙ ap (λ x. eqb (x / 2 ^ (j % 64) % 2) 1) here
          ∙ ap (λ x. eqb x 1) same
          ∙ ap (λ k. eqb (get_or w k 0 / 2 ^ (j % 64) % 2) 1) (sym e)

      go : Dec (j < i) → Dec (i < j) → holds (added w i) j ≡ eqb j i || holds w j
      go (yes l) _ = rw (ne_eqb j i (λ e. omega arith)) (other (λ e. omega arith) (dec_lt (j / 64) (i / 64)) (dec_lt (i / 64) (j / 64)))
      go (no _) (yes l) = rw (ne_eqb j i (λ e. omega arith)) (other (λ e. omega arith) (dec_lt (j / 64) (i / 64)) (dec_lt (i / 64) (j / 64)))
      go (no a) (no b) =
          let e : j ≡ i = omega arith in
          let one : bit_or (get_or w (i / 64) 0) (2 ^ (i % 64)) / 2 ^ (i % 64) % 2 ≡ 1
          = omega (arith, or_bit (get_or w (i / 64) 0) (2 ^ (i % 64)) (i % 64), power_bit (i % 64)) in
          rw (eq-eqb j i e, e)
          (ap (λ x. eqb (x / 2 ^ (i % 64) % 2) 1) here
          ∙ ap (λ x. eqb x 1) one)
