-- `lexemes::constants::decimal_value` meets its contract: the value so far and the digits that are left come to the whole decimal.
-- Assumes nothing.
use borrow.Author.Rules.{rules}
use borrow.Author.Tests.{lt-ltb, le-ltb}
use native.Mathlib.Omega.{arith}
use native.Mathlib.Numerals.{add-one}
use mathlib.Core.Path.{◌≡◌, sym, ap, ◌∙◌}
use mathlib.Core.Bool.{true, false, ◌&&◌, and-false}
use mathlib.Core.List.{List, [], ◌∷◌}
use Prim.Native.Nat.{ℕ, ◌+◌, ◌-◌, ◌*◌, ◌/◌, ◌^◌, ◌<◌, ◌≤◌}
use lib.Dec.{ltb}
use lib.ListN.{length, get_or}
use lib.Seq.{slice, slice_empty, slice-cons}
use Rattle.rules.specs.Text.Constants.{malformed, constant, decimal, decimal_bits, all, is_digit_of, value_from, digit_value}
use Rattle.lexemes.specs.Digits.{digit_no}
use Rattle.lexemes.specs.Laws.Digits.{is_digit_of_lem, is_value}
use Rattle.lexemes.specs.Numbers.{number_of}
use Rattle.lexemes.specs.Laws.Numbers.{known_by, decimal_from}
use Rattle.std.specs.Prelude.{Some, None}
use Rattle.lexemes.proofs.constants.decimal_value.Invariants.{Inv}
use Rattle.lexemes.proofs.constants.decimal_value.Goals as goal

whole : (ds : List ℕ) → decimal_from 0 ds ≡ decimal ds
unfolding decimal
whole ds = known_by (all (is_digit_of 10) ds && ltb (value_from 10 0 ds) (2 ^ 64)) (value_from 10 0 ds) 0 (decimal_bits (value_from 10 0 ds))

grows : (v : ℕ) (ds : List ℕ) → v ≤ value_from 10 v ds
unfolding value_from
grows v [] = omega arith
grows v (b ∷ bs) = omega (arith, grows (v * 10 + digit_value b) bs)

too_large : (v : ℕ) (ds : List ℕ) → 2 ^ 64 ≤ v → decimal_from v ds ≡ malformed
too_large v ds h =
    let past : 2 ^ 64 ≤ value_from 10 v ds = omega (arith, grows v ds) in
    rw (le-ltb (value_from 10 v ds) (2 ^ 64) past, and-false (all (is_digit_of 10) ds))

more : (v b : ℕ) (bs : List ℕ) → is_digit_of 10 b ≡ true → decimal_from v (b ∷ bs) ≡ decimal_from (v * 10 + digit_value b) bs
unfolding all value_from
more v b bs h = rw h

no_digit : (v b : ℕ) (bs : List ℕ) → is_digit_of 10 b ≡ false → decimal_from v (b ∷ bs) ≡ malformed
unfolding all
no_digit v b bs h = rw h

starts : (text : List ℕ) (at end : ℕ) → at ≤ end → Inv text at end 0 at
starts text at end h = record { low = omega arith; high = h; small = omega arith; left = whole (slice at end text) }

module _ {text : List ℕ} {at end value i : ℕ} (inv : Inv text at end value i) where
  module _ {d : ℕ} (h : i < end) (within : end ≤ length text) (e : d ≡ digit_no (get_or text i 0)) (byte : get_or text i 0 < 256) where
    split : slice i end text ≡ get_or text i 0 ∷ slice (i + 1) end text
    split = rw add-one (slice-cons i end text 0 h within)

    not_digit : 9 < d → None ≡ number_of (decimal (slice at end text))
    not_digit l =
        let bad : is_digit_of 10 (get_or text i 0) ≡ false = is_digit_of_lem 10 (get_or text i 0) byte (omega arith) ∙ le-ltb (digit_no (get_or text i 0)) 10 (omega arith) in
        sym (ap number_of (sym inv.left ∙ ap (decimal_from value) split ∙ no_digit value _ _ bad))

    step : d ≤ 9 → decimal_from (value * 10 + d) (slice (i + 1) end text) ≡ decimal (slice at end text)
    step l =
        let good : is_digit_of 10 (get_or text i 0) ≡ true = is_digit_of_lem 10 (get_or text i 0) byte (omega arith) ∙ lt-ltb (digit_no (get_or text i 0)) 10 (omega arith) in
        let worth : digit_value (get_or text i 0) ≡ d = is_value (get_or text i 0) byte (omega arith) ∙ sym e in
        ap (λ (n : ℕ). decimal_from (value * 10 + n) (slice (i + 1) end text)) (sym worth)
        ∙ sym (more value _ _ good)
        ∙ ap (decimal_from value) (sym split)
        ∙ inv.left

    overflow : d ≤ 9 → (18446744073709551615 - d) / 10 < value → None ≡ number_of (decimal (slice at end text))
    overflow l o = sym (ap number_of (sym (step l) ∙ too_large (value * 10 + d) _ (omega arith)))

    passed : d ≤ 9 → value ≤ (18446744073709551615 - d) / 10 → Inv text at end (value * 10 + d) (i + 1)
    passed l o = record { low = omega (arith, inv.low); high = omega arith; small = omega arith; left = step l }

  ended : {n : ℕ} → end ≤ i → n ≡ decimal_bits value → Some (record { value = value; free = 0; bits = n }) ≡ number_of (decimal (slice at end text))
  unfolding all value_from
  ended {n} h e =
      let last : i ≡ end = omega (arith, inv.high) in
      let over : slice i end text ≡ [] = rw (last, slice_empty end text) in
      let known : decimal_from value [] ≡ constant value 0 (decimal_bits value) = rw (lt-ltb value (2 ^ 64) inv.small) in
      rw e (ap number_of (sym known ∙ ap (decimal_from value) (sym over) ∙ inv.left))

pub loop-i-init : goal.loop-i-init
loop-i-init c = search (rules, starts)

pub returns-then-digit-gt9 : goal.returns-then-digit-gt9
returns-then-digit-gt9 c = search (rules, not_digit)

pub returns-then-digit-value : goal.returns-then-digit-value
returns-then-digit-value c = search (rules, overflow)

pub loop-i-preserved : goal.loop-i-preserved
loop-i-preserved c = search (rules, passed)

pub returns : goal.returns
returns c = search (rules, ended)
