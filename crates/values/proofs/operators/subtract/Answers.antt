-- `values::operators::subtract` meets its contract: the difference modulo 2 ^ 64 is one modulo each shorter length.
-- Assumes nothing.
use Rattle.std.proofs.Common.{◌≡◌, ℕ, ◌+◌, ◌-◌, ◌%◌, ◌^◌, ◌<◌, ◌≤◌, sym, ap, ◌∙◌, arith, pow_mono}
use native.Mathlib.Nat.{add-mod_right, mod-add-mod}
use lib.Pow.{mod-mod-pow}
use Rattle.rules.specs.Text.Tokens.{minus}
use Rattle.rules.specs.Values.{op_bits, op_number}
use Rattle.values.specs.Operands.{Fit}
use Rattle.values.proofs.operators.subtract.Goals as goal

shorter : (n x a : ℕ) → n ≤ 64 → x % 2 ^ 64 ≡ a → x % 2 ^ n ≡ a % 2 ^ n
shorter n x a h e =
    let all : 64 - n + n ≡ 64 = omega arith in
    sym (rw all at (mod-mod-pow x (64 - n) n)) ∙ ap (λ (y : ℕ). y % 2 ^ n) e

less : (p d a b : ℕ) → b ≤ p → (d + b) % p ≡ a % p → d % p ≡ (p + a - b) % p
less p d a b h e =
    let from : d + b + (p - b) ≡ d + p = omega arith in
    let to : a + (p - b) ≡ p + a - b = omega arith in
    sym (add-mod_right d p) ∙ rw (← from, ← to, ← mod-add-mod (d + b), e, mod-add-mod)

difference : (n d r a b m k : ℕ) → n ≤ 64 → (d + b) % 2 ^ 64 ≡ a → r ≡ d % 2 ^ n
    → Fit m a k b → n ≡ op_bits minus m k → r ≡ op_number minus m a k b
unfolding op_bits op_number
difference n d r a b m k h wraps is_low fit len =
    let below : b ≤ 2 ^ n = omega (arith, fit.right, pow_mono {i = k} {j = n} (omega arith)) in
    rw (← len) (is_low ∙ less (2 ^ n) d a b below (shorter n (d + b) a h wraps))

wrapped : (a b : ℕ) → a < 2 ^ 64 → b < 2 ^ 64 → ((a + (2 ^ 64 - b)) % 2 ^ 64 + b) % 2 ^ 64 ≡ a
wrapped a b h l = omega arith

pub returns : goal.returns
returns c = λ m k. difference _ _ _ _ _ m k c.requires (wrapped c.args.a c.args.b (omega arith) (omega arith)) c.low_bits.ensures
