-- The values of a pattern of n bits: by its lowest bit, by its highest bit, the least of them and the greatest.
-- Assumes nothing.
use Rattle.std.specs.Prelude.{ℕ, zero, suc, ◌+◌, ◌*◌, ◌/◌, ◌%◌, ◌^◌, ◌<◌, ◌≤◌, min, ◌≡◌, refl, Bool, true, false, ◌&&◌, ◌||◌, T, eqb}
use Rattle.std.proofs.Common.{sym, ap, ◌∙◌, mod-lt, mod-eq_of_lt, div-one, add-one, one-add, arith, eqb→eq, pow_pos, shr-shr}
use Rattle.std.proofs.Math.Nat.{pow-succ', zero-mod, div-eq_of_lt}
use Rattle.std.proofs.Math.Arith.{digits_div, digits_mod}
use Rattle.std.specs.Int.Bits.{and_step}
use Rattle.std.proofs.lemmas.Nat.{and_mod, or_disjoint, or_lt}
use Rattle.std.proofs.Math.Dec.{eqb_refl}
use Rattle.std.proofs.Math.Pow.{field, mod-mod-pow}
use Rattle.rules.specs.Selectors.{agree}
use Rattle.summaries.specs.Fits.{PatternFits}
use Rattle.patterns.specs.Laws.Patterns.{Bit, b0, b1, lowest_bit}
use Rattle.summaries.specs.Laws.Truth.{both, first, second, right}

-- whether a bit may be x where the value has v, and f says whether it is free
abbrev pub allows : ℕ → ℕ → ℕ → Bool
allows f v x = eqb f 1 || eqb v x

-- BY THE HIGHEST BIT
shift : (x n : ℕ) → x / 2 / 2 ^ n ≡ x / 2 ^ suc n
shift x n = shr-shr x 1 n ∙ ap (λ k. x / 2 ^ k) (one-add n)

inner_half : (x n : ℕ) → x % 2 ^ suc n / 2 ≡ x / 2 % 2 ^ n
inner_half x n = ap (λ k. x % 2 ^ k / 2) (sym (add-one n)) ∙ field x n 1

inner_bit : (x n : ℕ) → x % 2 ^ suc n % 2 ≡ x % 2
inner_bit x n = ap (λ k. x % 2 ^ k % 2) (sym (add-one n)) ∙ mod-mod-pow x n 1

swap : (a b c : Bool) → a && (b && c) ≡ b && (a && c)
swap true b c = refl
swap false true c = refl
swap false false c = refl

module _ (v f x : ℕ) where
  abbrev high_bit : ℕ → Bool
  high_bit n = allows (f / 2 ^ n % 2) (v / 2 ^ n % 2) (x / 2 ^ n % 2)

pub by_highest : (n v f x : ℕ) → agree (suc n) v f x ≡ high_bit v f x n && agree n (v % 2 ^ n) (f % 2 ^ n) (x % 2 ^ n)
unfolding agree
by_highest zero v f x = rw (div-one f, div-one v, div-one x) refl
by_highest (suc n) v f x =
    let low = allows (f % 2) (v % 2) (x % 2) in
    let rest = agree n (v / 2 % 2 ^ n) (f / 2 % 2 ^ n) (x / 2 % 2 ^ n) in
    ap (◌&&◌ low) (by_highest n (v / 2) (f / 2) (x / 2)) ∙ swap low (high_bit (v / 2) (f / 2) (x / 2) n) rest ∙ simp (shift, inner_half, inner_bit) refl

-- THE LEAST AND THE GREATEST
bit_least : {v f : ℕ} → Bit v → Bit f → min v f ≡ 0 → (x : ℕ) → T (allows f v x) → v ≤ x
bit_least b0 _ m x h = omega arith
bit_least b1 b0 m x h = omega (arith, eqb→eq 1 x h)
bit_least b1 b1 m x h = absurd (omega arith)

bit_greatest : {v f : ℕ} → Bit v → Bit f → (x : ℕ) → x < 2 → T (allows f v x) → x ≤ v + f
bit_greatest _ b1 x l h = omega arith
bit_greatest b0 b0 x l h = omega (arith, eqb→eq 0 x h)
bit_greatest b1 b0 x l h = omega arith

bit_greatest_agrees : {v f : ℕ} → Bit v → Bit f → min v f ≡ 0 → T (allows f v (v + f))
bit_greatest_agrees _ b1 m = tt
bit_greatest_agrees b0 b0 m = tt
bit_greatest_agrees b1 b0 m = tt

module _ (n v f : ℕ) (p : PatternFits (suc n) v f) where
  pub bits_apart : min (v % 2) (f % 2) ≡ 0
  bits_apart = let e = p.apart in omega (arith, and_step v f)

  pub half_fits : PatternFits n (v / 2) (f / 2)
  half_fits =
      let a = p.value in
      let b = p.free in
      let e = p.apart in
      record { value = omega (arith, pow-succ' 2 n); free = omega (arith, pow-succ' 2 n); apart = omega (arith, and_step v f) }

  pub low_fits : PatternFits n (v % 2 ^ n) (f % 2 ^ n)
  low_fits =
      record {
        value = mod-lt v (pow_pos n);
        free = mod-lt f (pow_pos n);
        apart = sym (and_mod v f n) ∙ ap (λ x. x % 2 ^ n) p.apart ∙ zero-mod (2 ^ n);
      }

pub least : (n v f x : ℕ) → PatternFits n v f → T (agree n v f x) → v ≤ x
unfolding agree
least zero v f x p h = let a = p.value in omega arith
least (suc n) v f x p h =
    let low = allows (f % 2) (v % 2) (x % 2) in
    let rest = agree n (v / 2) (f / 2) (x / 2) in
    omega (
      arith,
      least n (v / 2) (f / 2) (x / 2) (half_fits n v f p) (second low rest h),
      bit_least (lowest_bit v) (lowest_bit f) (bits_apart n v f p) (x % 2) (first low rest h),
    )

pub greatest : (n v f x : ℕ) → PatternFits n v f → x < 2 ^ n → T (agree n v f x) → x ≤ v + f
unfolding agree
greatest zero v f x p l h = omega arith
greatest (suc n) v f x p l h =
    let low = allows (f % 2) (v % 2) (x % 2) in
    let rest = agree n (v / 2) (f / 2) (x / 2) in
    omega (
      arith,
      greatest n (v / 2) (f / 2) (x / 2) (half_fits n v f p) (omega (arith, pow-succ' 2 n)) (second low rest h),
      bit_greatest (lowest_bit v) (lowest_bit f) (x % 2) (omega arith) (first low rest h),
    )

pub least_agrees : (n v f : ℕ) → T (agree n v f v)
unfolding agree
least_agrees zero v f = tt
least_agrees (suc n) v f =
    both (allows (f % 2) (v % 2) (v % 2)) (agree n (v / 2) (f / 2) (v / 2)) (right (eqb (f % 2) 1) (eqb (v % 2) (v % 2)) (eqb_refl (v % 2))) (least_agrees n (v / 2) (f / 2))

pub greatest_agrees : (n v f : ℕ) → PatternFits n v f → T (agree n v f (v + f))
unfolding agree
greatest_agrees zero v f p = tt
greatest_agrees (suc n) v f p =
    let apart = bits_apart n v f p in
    let half : (v + f) / 2 ≡ v / 2 + f / 2 = omega arith in
    let bit : (v + f) % 2 ≡ v % 2 + f % 2 = omega arith in
    rw (half, bit)
    (both (allows (f % 2) (v % 2) (v % 2 + f % 2)) (agree n (v / 2) (f / 2) (v / 2 + f / 2))
    (bit_greatest_agrees (lowest_bit v) (lowest_bit f) apart) (greatest_agrees n (v / 2) (f / 2) (half_fits n v f p)))

pub sum_fits : (n v f : ℕ) → PatternFits n v f → v + f < 2 ^ n
sum_fits n v f p = rw (← or_disjoint v f p.apart) (or_lt n v f p.value p.free)

-- the highest bit of a value of n + 1 bits, and the others
pub record Split (n x b y : ℕ) : Type 0 where
  pub bit : x / 2 ^ n % 2 ≡ b
  pub others : x % 2 ^ n ≡ y

pub split_low : (n x : ℕ) → x < 2 ^ n → Split n x 0 x
split_low n x h = record { bit = rw div-eq_of_lt refl; others = mod-eq_of_lt h }

pub split_high : (n y : ℕ) → y < 2 ^ n → Split n (2 ^ n + y) 1 y
split_high n y h =
    let e : 2 ^ n + y ≡ 1 * 2 ^ n + y = omega arith in
    record { bit = rw (e, digits_div 1 h) refl; others = rw (e, digits_mod 1 h) refl }
