-- `lexemes::constants::based_digits` meets its contract: the value and the free bits so far, and the digits that are left, come to the whole.
-- Assumes nothing.
use borrow.Author.Rules.{rules}
use borrow.Author.Tests.{lt-ltb, le-ltb, eq-eqb, ne_eqb, eqb-true}
use native.Mathlib.Omega.{arith}
use native.Mathlib.Nat.{add-zero, pow-le-pow_right, one-le-pow}
use native.Mathlib.Numerals.{add-one}
use mathlib.Core.Path.{◌≡◌, refl, sym, ap, ◌∙◌}
use mathlib.Core.Bool.{true, false}
use mathlib.Core.List.{List, [], ◌∷◌}
use Prim.Native.Nat.{ℕ, suc, ◌+◌, ◌-◌, ◌*◌, ◌^◌, ◌<◌, ◌≤◌}
use lib.ListN.{length, get_or}
use lib.Seq.{slice, slice_empty, slice-cons}
use Rattle.rules.specs.Text.Constants.{Constant, malformed, all, is_based_digit, is_digit_of, is_query, value_from, free_from, digit_value, free_digit}
use Rattle.lexemes.specs.Laws.Bounds.{next_digit, query_value, query_free}
use Rattle.lexemes.specs.Digits.{digit_no}
use Rattle.lexemes.specs.Laws.Digits.{is_query_lem, is_digit_of_lem, is_value}
use Rattle.lexemes.specs.Numbers.{number_of, based_from, based_digits}
use Rattle.std.specs.Prelude.{Some, None}
use Rattle.lexemes.proofs.constants.based_digits.Invariants.{Inv}
use Rattle.lexemes.proofs.constants.based_digits.Goals.{then-digit-eq16, else-digit-eq16+then-digit-base}
use Rattle.lexemes.proofs.constants.based_digits.Goals as goal

-- one more digit of a number, with room for it
below : (base v d n m : ℕ) → v < base ^ n → d < base → n < m → base ^ m ≤ 2 ^ 64 → v * base + d < 2 ^ 64
below base v d n m small digit room fits = omega (arith, next_digit base v d n small digit, pow-le-pow_right {n = base} (omega arith) {i = suc n} {j = m} room)

-- one more digit of a constant, by what it is
more : (base n v f b : ℕ) (bs : List ℕ) → is_based_digit base b ≡ true
    → based_from base n v f (b ∷ bs) ≡ based_from base n (v * base + digit_value b) (f * base + free_digit base b) bs
unfolding all value_from free_from
more base n v f b bs h = rw h

no_digit : (base n v f b : ℕ) (bs : List ℕ) → is_based_digit base b ≡ false → based_from base n v f (b ∷ bs) ≡ malformed
unfolding all
no_digit base n v f b bs h = rw h

more_query : (base n v f b : ℕ) (bs : List ℕ) → b < 256 → digit_no b ≡ 16
    → based_from base n v f (b ∷ bs) ≡ based_from base n (v * base) (f * base + (base - 1)) bs
unfolding is_based_digit
more_query base n v f b bs byte e =
    let query : is_query b ≡ true = is_query_lem b byte ∙ eq-eqb _ _ e in
    let sign : b ≡ 63 = eqb-true b 63 query in
    more base n v f b bs (rw (is_based_digit, query)) ∙ rw (sign, query_value, query_free, add-zero)

module _ (base n v f b : ℕ) (bs : List ℕ) (byte : b < 256) (low : base ≤ 16) (other : digit_no b ≡ 16 → ⊥) where
  query : is_query b ≡ false
  query = is_query_lem b byte ∙ ne_eqb _ _ other

  based : is_based_digit base b ≡ is_digit_of base b
  unfolding is_based_digit
  based = rw (is_based_digit, query)

  more_digit : digit_no b < base → based_from base n v f (b ∷ bs) ≡ based_from base n (v * base + digit_no b) (f * base) bs
  unfolding free_digit
  more_digit l =
      more base n v f b bs (based ∙ is_digit_of_lem base b byte low ∙ lt-ltb _ _ l)
      ∙ rw (free_digit, query, is_value b byte (omega arith), add-zero)

  not_digit : base ≤ digit_no b → based_from base n v f (b ∷ bs) ≡ malformed
  not_digit l = no_digit base n v f b bs (based ∙ is_digit_of_lem base b byte low ∙ le-ltb _ _ l)

starts : (text : List ℕ) (from end base bits : ℕ) → from ≤ end → 2 ≤ base → Inv text from end base bits 0 0 from
starts text from end base bits h two =
    let none : 0 < base ^ (from - from) = one-le-pow (from - from) base (omega arith) in
    record { low = omega arith; high = h; small = none; small_free = none; left = refl }

module _ {text : List ℕ} {from end base bits value free i : ℕ} (inv : Inv text from end base bits value free i) (two : 2 ≤ base) where
  module _ (h : i < end) (fits : base ^ (end - from) ≤ 2 ^ 64) where
    room : (v d : ℕ) → v < base ^ (i - from) → d < base → v * base + d < 2 ^ 64
    room v d small digit = below base v d (i - from) (end - from) small digit (omega (arith, inv.low)) fits

    value_fits : value * base < 2 ^ 64
    value_fits = omega (arith, room value 0 inv.small (omega arith))

    free_fits : free * base < 2 ^ 64
    free_fits = omega (arith, room free 0 inv.small_free (omega arith))

    query_fits : free * base + (base - 1) < 2 ^ 64
    query_fits = room free (base - 1) inv.small_free (omega arith)

    digit_fits : {d : ℕ} → d < base → value * base + d < 2 ^ 64
    digit_fits {d} l = room value d inv.small l

    module _ {d : ℕ} (within : end ≤ length text) (low : base ≤ 16) (e : d ≡ digit_no (get_or text i 0)) (byte : get_or text i 0 < 256) where
      split : slice i end text ≡ get_or text i 0 ∷ slice (i + 1) end text
      split = rw add-one (slice-cons i end text 0 h within)

      left : {k : Constant} → based_from base bits value free (get_or text i 0 ∷ slice (i + 1) end text) ≡ k → k ≡ based_digits base bits (slice from end text)
      left x = sym x ∙ ap (based_from base bits value free) (sym split) ∙ inv.left

      grown : (v x : ℕ) → v < base ^ (i - from) → x < base → v * base + x < base ^ (i + 1 - from)
      grown v x small digit =
          let size : i + 1 - from ≡ suc (i - from) = omega (arith, inv.low) in
          rw size (next_digit base v x (i - from) small digit)

      passed : (v f : ℕ) → v < base ^ (i + 1 - from) → f < base ^ (i + 1 - from)
          → based_from base bits value free (get_or text i 0 ∷ slice (i + 1) end text) ≡ based_from base bits v f (slice (i + 1) end text)
          → Inv text from end base bits v f (i + 1)
      passed v f small small_free x = record { low = omega (arith, inv.low); high = omega arith; small = small; small_free = small_free; left = left x }

      query_passed : d ≡ 16 → Inv text from end base bits (value * base) (free * base + (base - 1)) (i + 1)
      query_passed q =
          passed (value * base) (free * base + (base - 1))
          (omega (arith, grown value 0 inv.small (omega arith)))
          (grown free (base - 1) inv.small_free (omega arith))
          (more_query base bits value free _ _ byte (sym e ∙ q))

      digit_passed : (d ≡ 16 → ⊥) → d < base → Inv text from end base bits (value * base + d) (free * base) (i + 1)
      digit_passed q l =
          passed (value * base + d) (free * base)
          (grown value d inv.small l)
          (omega (arith, grown free 0 inv.small_free (omega arith)))
          (more_digit base bits value free _ _ byte low (λ z. q (e ∙ z)) (omega arith)
          ∙ ap (λ (n : ℕ). based_from base bits (value * base + n) (free * base) (slice (i + 1) end text)) (sym e))

      stopped : (d ≡ 16 → ⊥) → base ≤ d → None ≡ number_of (based_digits base bits (slice from end text))
      stopped q l = ap number_of (left (not_digit base bits value free _ _ byte low (λ z. q (e ∙ z)) (omega arith)))

  ended : end ≤ i → Some (record { value = value; free = free; bits = bits }) ≡ number_of (based_digits base bits (slice from end text))
  unfolding all value_from free_from
  ended h =
      let last : i ≡ end = omega (arith, inv.high) in
      let over : slice i end text ≡ [] = rw (last, slice_empty end text) in
      ap number_of (ap (based_from base bits value free) (sym over) ∙ inv.left)

pub loop-i-init : goal.loop-i-init
loop-i-init c = search (rules, starts)

pub overflow_mul-value : goal.overflow_mul-value
overflow_mul-value c = search (rules, value_fits)

pub overflow_mul-free : goal.overflow_mul-free
overflow_mul-free c = search (rules, free_fits)

pub overflow_add-free : goal.overflow_add-free
overflow_add-free c = search (rules, query_fits)

pub overflow_mul-value-then-digit-base : goal.overflow_mul-value-then-digit-base
overflow_mul-value-then-digit-base c = search (rules, value_fits)

pub overflow_add-value : goal.overflow_add-value
overflow_add-value c = search (rules, digit_fits)

pub overflow_mul-free-then-digit-base : goal.overflow_mul-free-then-digit-base
overflow_mul-free-then-digit-base c = search (rules, free_fits)

pub loop-i-preserved : goal.loop-i-preserved
loop-i-preserved c =
    elim c.if-digit-eq16.branch [
      | then-digit-eq16 w ↦ rw (w.value-is, w.free-is) (search (rules, query_passed))
      | else-digit-eq16+then-digit-base w ↦ rw (w.value-is, w.free-is) (search (rules, digit_passed))
    ]

pub returns-else-digit-base : goal.returns-else-digit-base
returns-else-digit-base c = search (rules, stopped)

pub returns : goal.returns
returns c = search (rules, ended)
