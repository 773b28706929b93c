-- `lexemes::constants::decimal_bits` meets its contract: what is left of the value is 0 once the bits are enough.
-- Assumes nothing.
use borrow.Author.Rules.{rules}
use borrow.Author.Tests.{lt-ltb, le-ltb}
use native.Mathlib.Omega.{arith}
use native.Mathlib.Decide.{dec_lt}
use native.Mathlib.Nat.{div-eq_of_lt, div-lt_iff_lt-mul, div-div-eq-div-mul, pow-suc}
use native.Mathlib.Numerals.{add-one}
use mathlib.Core.Path.{◌≡◌, refl, sym, ap, ◌∙◌}
use Prim.Native.Nat.{ℕ, zero, suc, ◌+◌, ◌-◌, ◌/◌, ◌^◌, ◌<◌, ◌≤◌}
use lib.Pow.{pow_pos}
use Rattle.rules.specs.Text.Constants.{bits_from, decimal_bits}
use Rattle.lexemes.proofs.constants.decimal_bits.Invariants.{Inv}
use Rattle.lexemes.proofs.constants.decimal_bits.Goals as goal

-- the tests by what is left
enough : (v k : ℕ) → v / 2 ^ k ≡ 0 → v < 2 ^ k
enough v k e = omega (arith, (div-lt_iff_lt-mul {k = 2 ^ k} {x = v} {y = 1} (pow_pos k)).0 (omega arith))

too_few : (v k : ℕ) → (v / 2 ^ k ≡ 0 → ⊥) → 2 ^ k ≤ v
too_few v k ne = go (dec_lt v (2 ^ k))
  where
    go : Dec (v < 2 ^ k) → 2 ^ k ≤ v
    go (yes l) = absurd (ne (div-eq_of_lt l))
    go (no g) = omega arith

found : (n k v : ℕ) → v < 2 ^ k → bits_from n k v ≡ k
unfolding bits_from
found zero k v h = refl
found (suc n) k v h = rw (bits_from, lt-ltb v (2 ^ k) h)

starts : (v : ℕ) → Inv v 1 (v / 2)
unfolding decimal_bits
starts v = record { low = omega arith; high = omega arith; left = refl; so_far = refl }

module _ {value bits rest : ℕ} (inv : Inv value bits rest) where
  more : value < 2 ^ 64 → (rest ≡ 0 → ⊥) → bits < 64
  more fits ne = go (dec_lt bits 64)
    where
      go : Dec (bits < 64) → bits < 64
      go (yes l) = l
      go (no g) =
          let all : bits ≡ 64 = omega (arith, inv.high) in
          let past : 2 ^ bits ≤ value = too_few value bits (λ e. ne (inv.left ∙ e)) in
          absurd (omega (arith, rw all at past))

  passed : value < 2 ^ 64 → (rest ≡ 0 → ⊥) → Inv value (bits + 1) (rest / 2)
  unfolding bits_from
  passed fits ne =
      let room : bits < 64 = more fits ne in
      let past : 2 ^ bits ≤ value = too_few value bits (λ e. ne (inv.left ∙ e)) in
      let fuel : 64 - bits ≡ suc (64 - (bits + 1)) = omega arith in
      record {
        low = omega arith;
        high = omega arith;
        left = rw (add-one, pow-suc) (ap (λ (n : ℕ). n / 2) inv.left ∙ div-div-eq-div-mul value (2 ^ bits) 2);
        so_far = rw (fuel, bits_from, le-ltb value (2 ^ bits) past) at inv.so_far;
      }

  ended : rest ≡ 0 → bits ≡ decimal_bits value
  ended e = sym (found (64 - bits) bits value (enough value bits (sym inv.left ∙ e))) ∙ inv.so_far

pub loop-rest-init : goal.loop-rest-init
loop-rest-init c = search (rules, starts)

pub loop-rest-preserved : goal.loop-rest-preserved
loop-rest-preserved c = search (rules, passed)

pub returns : goal.returns
returns c = search (rules, ended)
