-- Laws of digits: how many there are, and the last of them behind the others.
-- Assumes nothing.
use Prim.Native.Nat.{ℕ, zero, suc, ◌+◌, ◌-◌, ◌/◌, ◌%◌, ◌<◌, ◌≤◌}
use mathlib.Core.Path.{◌≡◌, refl}
use mathlib.Core.Bool.{Bool, true, false}
use mathlib.Core.List.{List, [], ◌∷◌, ◌++◌}
use native.Mathlib.Omega.{arith}
use borrow.Author.Tests.{lt-ltb, le-ltb}
use lib.Dec.{ltb}
use lib.ListN.{length, length-append}
use Rattle.lines.specs.Appended.{Appended}
use Rattle.lines.specs.Laws.Appended.{nothing_more, and_then}
use Rattle.lines.specs.Digits.{decimal_in, hex_digit, hex_in}

pub decimal_short : (k n : ℕ) → length (decimal_in k n) ≤ k
unfolding decimal_in
decimal_short zero n = omega arith
decimal_short (suc k) n = by (ltb n 10) (decimal_short k (n / 10))
  where
    by : (b : Bool) → length (decimal_in k (n / 10)) ≤ k
        → length {A = ℕ} (elim b [ true ↦ (48 + n) ∷ [] | false ↦ decimal_in k (n / 10) ++ ((48 + n % 10) ∷ []) ]) ≤ suc k
    by true h = omega arith
    by false h = omega (arith, length-append (decimal_in k (n / 10)) ((48 + n % 10) ∷ []))

pub hex_long : (k n : ℕ) → length (hex_in k n) ≡ k
unfolding hex_in
hex_long zero n = refl
hex_long (suc k) n = omega (arith, length-append (hex_in k (n / 16)) (hex_digit (n % 16) ∷ []), hex_long k (n / 16))

-- how far a number reaches
pub decimal_put : (n : ℕ) {before after : List ℕ} {at r : ℕ} → Appended before after at r (decimal_in 20 n) → Appended before after at r (decimal_in 20 n) × (r ≤ at + 20)
decimal_put n p = (p, omega (arith, p.size, decimal_short 20 n))

pub hex_put : (n : ℕ) {before after : List ℕ} {at r : ℕ} → Appended before after at r (hex_in 16 n) → Appended before after at r (hex_in 16 n) × (r ≡ at + 16)
hex_put n p = (p, omega (arith, p.size, hex_long 16 n))

-- behind the other digits there is room for the last
pub room_for_digit : (k n : ℕ) {before between : List ℕ} {at next : ℕ} → (k ≡ 0 → ⊥) → Appended before between at next (decimal_in (k - 1) n) → at + k ≤ length before
    → next < length between
room_for_digit k n h p z = let one : 0 < k = omega arith in omega (arith, p.size, p.room, decimal_short (k - 1) n)

pub room_for_hex : (k n : ℕ) {before between : List ℕ} {at next : ℕ} → (k ≡ 0 → ⊥) → Appended before between at next (hex_in (k - 1) n) → at + k ≤ length before
    → next < length between
room_for_hex k n h p z = let one : 0 < k = omega arith in omega (arith, p.size, p.room, hex_long (k - 1) n)

pub no_digit : (k n : ℕ) {before : List ℕ} {at : ℕ} → k ≡ 0 → Appended before before at at (decimal_in k n)
unfolding decimal_in
no_digit k n e = rw (e, decimal_in) nothing_more

module _ (k n : ℕ) {before after : List ℕ} {at r : ℕ} where
  pub one_digit : (k ≡ 0 → ⊥) → n < 10 → Appended before after at r ((48 + n) ∷ []) → Appended before after at r (decimal_in k n)
  unfolding decimal_in
  one_digit h l p = by k h
    where
      by : (k : ℕ) → (k ≡ 0 → ⊥) → Appended before after at r (decimal_in k n)
      by zero h = absurd (h refl)
      by (suc k) h = rw (decimal_in, lt-ltb n 10 l) p

  pub more_digits : {between : List ℕ} {next : ℕ} → (k ≡ 0 → ⊥) → 10 ≤ n → Appended before between at next (decimal_in (k - 1) (n / 10))
      → Appended between after next r ((48 + n % 10) ∷ []) → Appended before after at r (decimal_in k n)
  unfolding decimal_in
  more_digits {between} {next} h l p q = by k h p
    where
      by : (k : ℕ) → (k ≡ 0 → ⊥) → Appended before between at next (decimal_in (k - 1) (n / 10)) → Appended before after at r (decimal_in k n)
      by zero h p = absurd (h refl)
      by (suc k) h p = let fewer : suc k - 1 ≡ k = omega arith in rw (decimal_in, le-ltb n 10 l) (and_then (rw fewer at p) q)

pub no_hex : (k n : ℕ) {before : List ℕ} {at : ℕ} → k ≡ 0 → Appended before before at at (hex_in k n)
unfolding hex_in
no_hex k n e = rw (e, hex_in) nothing_more

module _ (k n : ℕ) {before after : List ℕ} {at r : ℕ} where
  pub more_hex : {between : List ℕ} {next b : ℕ} → (k ≡ 0 → ⊥) → Appended before between at next (hex_in (k - 1) (n / 16)) → b ≡ hex_digit (n % 16)
      → Appended between after next r (b ∷ []) → Appended before after at r (hex_in k n)
  unfolding hex_in
  more_hex {between} {next} {b} h p e q = by k h p
    where
      by : (k : ℕ) → (k ≡ 0 → ⊥) → Appended before between at next (hex_in (k - 1) (n / 16)) → Appended before after at r (hex_in k n)
      by zero h p = absurd (h refl)
      by (suc k) h p = let fewer : suc k - 1 ≡ k = omega arith in rw (hex_in, ← e) (and_then (rw fewer at p) q)

-- a digit by its test
pub low_digit : (d : ℕ) → d < 10 → 48 + d ≡ hex_digit d
unfolding hex_digit
low_digit d h = rw (hex_digit, lt-ltb d 10 h)

pub high_digit : (d : ℕ) → 10 ≤ d → 65 + d % 10 ≡ hex_digit d
unfolding hex_digit
high_digit d h = rw (hex_digit, le-ltb d 10 h)
