-- Patterns by the machine's operations on words: they meet if no bit that both fix differs.
-- Assumes nothing.
use Rattle.std.specs.Prelude.{ℕ, zero, suc, ◌+◌, ◌-◌, ◌*◌, ◌/◌, ◌%◌, ◌^◌, ◌<◌, min, max, ◌≡◌, refl, ◌&&◌, ◌||◌, eqb}
use Rattle.std.proofs.Common.{sym, ap, ap₂, ◌∙◌, arith, eq-eqb, ne_eqb}
use Rattle.std.proofs.Math.Nat.{pow-succ'}
use Rattle.std.specs.Int.Bits.{differ, bit_and, bit_or, bit_xor, and_step, or_step, xor_step}
use Rattle.std.proofs.Math.Dec.{eqb-suc-zero}
use Rattle.rules.specs.Selectors.{agree}
use Rattle.rules.specs.Faults.Bodies.{patterns_meet}

-- a bit
pub data Bit : ℕ → Type 0 where
  b0 : Bit 0
  b1 : Bit 1

pub bit_of : (x : ℕ) → x < 2 → Bit x
bit_of zero h = b0
bit_of (suc zero) h = b1
bit_of (suc (suc x)) h = absurd (omega arith)

abbrev pub lowest_bit : (x : ℕ) → Bit (x % 2)
lowest_bit x = bit_of (x % 2) (omega arith)

-- the bits that differ though both patterns fix them
abbrev pub apart : ℕ → ℕ → ℕ → ℕ → ℕ → ℕ
apart n v f w g = bit_and (bit_and (bit_xor v w) (2 ^ n - 1 - f)) (2 ^ n - 1 - g)

abbrev bit_apart : ℕ → ℕ → ℕ → ℕ → ℕ
bit_apart v f w g = min (min (differ v w) (1 - f)) (1 - g)

one_bit : {v f w g : ℕ} → Bit v → Bit f → Bit w → Bit g → eqb f 1 || (eqb g 1 || eqb v w) ≡ eqb (bit_apart v f w g) 0
one_bit {v = v} {w = w} {g = g} _ b1 _ _ = sym (eq-eqb (bit_apart v 1 w g) 0 (omega arith))
one_bit {v = v} {w = w} _ b0 _ b1 = sym (eq-eqb (bit_apart v 0 w 1) 0 (omega arith))
one_bit b0 b0 b0 b0 = refl
one_bit b0 b0 b1 b0 = refl
one_bit b1 b0 b0 b0 = refl
one_bit b1 b0 b1 b0 = refl

none_set : (x y b : ℕ) → x ≡ y * 2 + b → eqb x 0 ≡ eqb b 0 && eqb y 0
none_set x zero zero e = eq-eqb x 0 (omega arith)
none_set x (suc y) zero e = ne_eqb x 0 (λ z. omega arith) ∙ sym (eqb-suc-zero y)
none_set x y (suc b) e = ne_eqb x 0 (λ z. omega arith) ∙ rw eqb-suc-zero

-- a mask without its lowest bit, and that bit
mask_half : (n f : ℕ) → f < 2 ^ suc n → (2 ^ suc n - 1 - f) / 2 ≡ 2 ^ n - 1 - f / 2
mask_half n f h = omega (arith, pow-succ' 2 n)

mask_bit : (n f : ℕ) → f < 2 ^ suc n → (2 ^ suc n - 1 - f) % 2 ≡ 1 - f % 2
mask_bit n f h = omega (arith, pow-succ' 2 n)

-- the operations on halves and on lowest bits
half : (x q b : ℕ) → x ≡ q * 2 + b → b < 2 → x / 2 ≡ q
half x q b e h = omega arith

odd : (x q b : ℕ) → x ≡ q * 2 + b → b < 2 → x % 2 ≡ b
odd x q b e h = omega arith

pub differ_bit : {x y : ℕ} → Bit x → Bit y → differ x y < 2
differ_bit b0 b0 = omega arith
differ_bit b0 b1 = omega arith
differ_bit b1 b0 = omega arith
differ_bit b1 b1 = omega arith

and_half : (a b : ℕ) → bit_and a b / 2 ≡ bit_and (a / 2) (b / 2)
and_half a b = half _ _ _ (and_step a b) (omega arith)

and_bit : (a b : ℕ) → bit_and a b % 2 ≡ min (a % 2) (b % 2)
and_bit a b = odd _ _ _ (and_step a b) (omega arith)

pub or_half : (a b : ℕ) → bit_or a b / 2 ≡ bit_or (a / 2) (b / 2)
or_half a b = half _ _ _ (or_step a b) (omega arith)

pub or_bit : (a b : ℕ) → bit_or a b % 2 ≡ max (a % 2) (b % 2)
or_bit a b = odd _ _ _ (or_step a b) (omega arith)

pub xor_half : (a b : ℕ) → bit_xor a b / 2 ≡ bit_xor (a / 2) (b / 2)
xor_half a b = half _ _ _ (xor_step a b) (differ_bit (lowest_bit a) (lowest_bit b))

pub xor_bit : (a b : ℕ) → bit_xor a b % 2 ≡ differ (a % 2) (b % 2)
xor_bit a b = odd _ _ _ (xor_step a b) (differ_bit (lowest_bit a) (lowest_bit b))

apart_step : (n v f w g : ℕ) → f < 2 ^ suc n → g < 2 ^ suc n
    → apart (suc n) v f w g ≡ apart n (v / 2) (f / 2) (w / 2) (g / 2) * 2 + bit_apart (v % 2) (f % 2) (w % 2) (g % 2)
apart_step n v f w g hf hg =
    let x = bit_xor v w in
    let a = 2 ^ suc n - 1 - f in
    let b = 2 ^ suc n - 1 - g in
    and_step (bit_and x a) b
    ∙ ap₂ (λ h l. h * 2 + l) (ap₂ bit_and (and_half x a ∙ ap₂ bit_and (xor_half v w) (mask_half n f hf)) (mask_half n g hg))
    (ap₂ min (and_bit x a ∙ ap₂ min (xor_bit v w) (mask_bit n f hf)) (mask_bit n g hg))

-- MACHINE
pub patterns_machine : (n v f w g : ℕ) → v < 2 ^ n → f < 2 ^ n → w < 2 ^ n → g < 2 ^ n → patterns_meet n v f w g ≡ eqb (apart n v f w g) 0
unfolding patterns_meet
patterns_machine zero v f w g hv hf hw hg =
    let zv : v ≡ 0 = omega arith in
    let zw : w ≡ 0 = omega arith in
    rw (zv, zw) refl
patterns_machine (suc n) v f w g hv hf hw hg =
    let less : (x : ℕ) → x < 2 ^ suc n → x / 2 < 2 ^ n = λ x h. omega (arith, pow-succ' 2 n) in
    ap₂ ◌&&◌ (one_bit (lowest_bit v) (lowest_bit f) (lowest_bit w) (lowest_bit g)) (patterns_machine n (v / 2) (f / 2) (w / 2) (g / 2) (less v hv) (less f hf) (less w hw) (less g hg))
    ∙ sym (none_set _ _ _ (apart_step n v f w g hf hg))

-- a pattern matches x if it meets the pattern x, which leaves no bit free
pub agree_meets : (n v f x : ℕ) → agree n v f x ≡ patterns_meet n v f x 0
unfolding agree patterns_meet
agree_meets zero v f x = refl
agree_meets (suc n) v f x = ap (◌&&◌ (eqb (f % 2) 1 || eqb (v % 2) (x % 2))) (agree_meets n (v / 2) (f / 2) (x / 2))
