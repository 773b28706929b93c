-- `values::fields::low_bits` meets its contract: below 64, the shift of 1 loses no bit.
-- Assumes nothing.
use Rattle.std.proofs.Common.{◌≡◌, ℕ, ◌*◌, ◌%◌, ◌^◌, ◌<◌, ◌≤◌, ◌∙◌, one-mul, arith, lit<, pow_pos, shl_exact, rules}
use Rattle.values.proofs.fields.low_bits.Goals as goal

whole : (v n : ℕ) → v < 2 ^ 64 → n ≡ 64 → v ≡ v % 2 ^ n
whole v n h e = rw e (omega arith)

one_shifted : (n : ℕ) → n ≤ 64 → (n ≡ 64 → ⊥) → 1 * 2 ^ n % 2 ^ 64 ≡ 2 ^ n
one_shifted n h other = shl_exact 1 n 64 (lit< tt) (omega arith) ∙ one-mul (2 ^ n)

pub returns-then-n-eq64 : goal.returns-then-n-eq64
returns-then-n-eq64 c = search (rules, whole)

pub nonzero_rem-result : goal.nonzero_rem-result
nonzero_rem-result c = rw (one_shifted _ c.requires c.if-n-eq64.false) (pow_pos _)

pub returns : goal.returns
returns c = rw (one_shifted _ c.requires c.if-n-eq64.false)
