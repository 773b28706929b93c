-- Bounds of digits: a number of n digits is below the n-th power of its base.
use Rattle.std.specs.Prelude.{◌≡◌, Bool, ◌&&◌, ◌||◌, ℕ, zero, suc, ◌+◌, ◌-◌, ◌*◌, ◌^◌, ◌<◌, ◌≤◌, ltb, length}
use Rattle.std.proofs.Math.Path.{refl, ap}
use Rattle.std.proofs.Common.{sym, ◌∙◌, add-zero, zero-add, mul-le-mul_right, mul-suc, mul-zero, pow-suc, arith, pow-add}
use Rattle.std.proofs.Math.Bool.{true, false}
use mathlib.Core.List.{List, [], ◌∷◌}
use Rattle.std.proofs.Math.Nat.{add-mul, pow-zero}
use borrow.Author.Tests.{eqb-true, ltb-true}
use Rattle.std.proofs.Math.Dec.{leb}
use Rattle.rules.specs.Text.Bytes.{fold}
use Rattle.rules.specs.Text.Constants.{all, is_query, is_digit_of, is_based_digit, digit_value, free_digit, value_from, free_from}
use Rattle.classes.specs.Laws.Runs.{and_right}
use Rattle.lexemes.specs.Laws.Spellings.{all_head, all_tail}

pub next_digit : (base v d n : ℕ) → v < base ^ n → d < base → v * base + d < base ^ suc n
next_digit base v d n small digit = omega (arith, mul-le-mul_right base small, pow-suc base n)

pub pow_times : (n k : ℕ) → (2 ^ n) ^ k ≡ 2 ^ (n * k)
pow_times n zero = rw (mul-zero, pow-zero)
pow_times n (suc k) = rw (pow-suc, pow_times n k, mul-suc) (sym (pow-add 2 (n * k) n))

-- `?` is worth 0, and leaves all bits of its digit free
pub query_value : digit_value 63 ≡ 0
unfolding digit_value fold
query_value = refl

pub query_free : (base : ℕ) → free_digit base 63 ≡ base - 1
unfolding free_digit
query_free base = refl

-- digits behind a number v, each worth what d says
unfoldable worth : (ℕ → ℕ) → ℕ → ℕ → List ℕ → ℕ
worth d base v [] = v
worth d base v (b ∷ bs) = worth d base (v * base + d b) bs

below : (d : ℕ → ℕ) (base v n : ℕ) (ok : ℕ → Bool) (ds : List ℕ) → ((b : ℕ) → ok b ≡ true → d b < base) → all ok ds ≡ true → v < base ^ n
    → worth d base v ds < base ^ (n + length ds)
unfolding worth
below d base v n ok [] each h small = rw add-zero small
below d base v n ok (b ∷ bs) each h small =
    let size : n + length (b ∷ bs) ≡ suc n + length bs = omega arith in
    rw size
    (below d base (v * base + d b) (suc n) ok bs each (all_tail ok b bs h) (next_digit base v (d b) n small (each b (all_head ok b bs h))))

value_worth : (base v : ℕ) (ds : List ℕ) → value_from base v ds ≡ worth digit_value base v ds
unfolding value_from worth
value_worth base v [] = refl
value_worth base v (b ∷ bs) = value_worth base (v * base + digit_value b) bs

free_worth : (base v : ℕ) (ds : List ℕ) → free_from base v ds ≡ worth (free_digit base) base v ds
unfolding free_from worth
free_worth base v [] = refl
free_worth base v (b ∷ bs) = free_worth base (v * base + free_digit base b) bs

module _ (base : ℕ) (two : 2 ≤ base) where
  -- a digit of a based constant is below its base, and so are its free bits
  digit_below : (b : ℕ) → is_based_digit base b ≡ true → digit_value b < base
  unfolding is_based_digit is_digit_of
  digit_below b h = go (is_query b) refl
    where
      go : (r : Bool) → is_query b ≡ r → digit_value b < base
      go true e = rw (eqb-true b 63 e, query_value) (omega arith)
      go false e =
          let d : is_digit_of base b ≡ true = rw (is_based_digit, e) at h in
          ltb-true _ _ (and_right (leb 48 b && leb b 57 || (leb 65 (fold b) && leb (fold b) 70)) (ltb (digit_value b) base) d)

  free_below : (b : ℕ) → is_based_digit base b ≡ true → free_digit base b < base
  unfolding free_digit
  free_below b h = go (is_query b) refl
    where
      go : (r : Bool) → is_query b ≡ r → free_digit base b < base
      go true e = rw (free_digit, e) (omega arith)
      go false e = rw (free_digit, e) (omega arith)

  worth_below : (d : ℕ → ℕ) (ds : List ℕ) → ((b : ℕ) → is_based_digit base b ≡ true → d b < base) → all (is_based_digit base) ds ≡ true
      → worth d base 0 ds < base ^ length ds
  worth_below d ds each h = rw zero-add at (below d base 0 0 (is_based_digit base) ds each h (rw pow-zero (omega arith)))

  pub value_below : (ds : List ℕ) → all (is_based_digit base) ds ≡ true → value_from base 0 ds < base ^ length ds
  value_below ds h = rw value_worth (worth_below digit_value ds digit_below h)

  pub freedom_below : (ds : List ℕ) → all (is_based_digit base) ds ≡ true → free_from base 0 ds < base ^ length ds
  freedom_below ds h = rw free_worth (worth_below (free_digit base) ds free_below h)

  -- a digit with its free bits is below the base too, so a number with all its free bits set is no longer
  together_below : (b : ℕ) → is_based_digit base b ≡ true → digit_value b + free_digit base b < base
  unfolding free_digit
  together_below b h = go (is_query b) refl
    where
      go : (r : Bool) → is_query b ≡ r → digit_value b + free_digit base b < base
      go true e = rw (free_digit, e, eqb-true b 63 e, query_value) (omega arith)
      go false e = rw (free_digit, e) (omega (arith, digit_below b h))

  worth_sum : (v f : ℕ) (ds : List ℕ) → worth digit_value base v ds + worth (free_digit base) base f ds ≡ worth (λ b. digit_value b + free_digit base b) base (v + f) ds
  unfolding worth
  worth_sum v f [] = refl
  worth_sum v f (b ∷ bs) =
      let next : v * base + digit_value b + (f * base + free_digit base b) ≡ (v + f) * base + (digit_value b + free_digit base b) = omega (arith, add-mul v f base) in
      worth_sum (v * base + digit_value b) (f * base + free_digit base b) bs ∙ ap (λ x. worth (λ c. digit_value c + free_digit base c) base x bs) next

  pub sum_below : (ds : List ℕ) → all (is_based_digit base) ds ≡ true → value_from base 0 ds + free_from base 0 ds < base ^ length ds
  sum_below ds h =
      rw (value_worth, free_worth, worth_sum) (worth_below (λ b. digit_value b + free_digit base b) ds together_below h)
