-- Faults of numbered things, from one number up: their least keys.
-- Assumes nothing.
use Rattle.std.specs.Prelude.{ℕ, zero, suc, ◌+◌, ◌<◌, ◌≤◌, min, ◌≡◌, Bool, true, false, ◌||◌, List, [], ◌++◌}
use Rattle.std.proofs.Math.Path.{refl}
use Rattle.std.proofs.Common.{sym, ap, ap₂, ◌∙◌, arith}
use Rattle.std.proofs.Math.Decide.{dec_lt}
use Rattle.rules.specs.Faults.Fault.{Fault, when}
use Rattle.keys.specs.Keys.{key, no_key, least_by, least_key}
use Rattle.keys.specs.Laws.Keys.{least_append, least_bounded}

-- those of n things from k on
unfoldable pub range_faults : (ℕ → List Fault) → ℕ → ℕ → List Fault
range_faults f k zero = []
range_faults f k (suc n) = f k ++ range_faults f (k + 1) n

abbrev pub least_in : (ℕ → List Fault) → ℕ → ℕ → ℕ
least_in f k n = least_key (range_faults f k n)

module _ (f : ℕ → List Fault) where
  pub least_none : (k : ℕ) → least_in f k 0 ≡ no_key
  unfolding range_faults least_by
  least_none k = refl

  pub least_more : (k n : ℕ) → least_in f k (suc n) ≡ min (least_key (f k)) (least_in f (k + 1) n)
  unfolding range_faults
  least_more k n = least_append key (f k) (range_faults f (k + 1) n)

  -- one of them is no less than the least
  pub least_at : (k n j : ℕ) → k ≤ j → j < k + n → least_in f k n ≤ least_key (f j)
  least_at k zero j l m = absurd (omega arith)
  least_at k (suc n) j l m = go (dec_lt k j) (λ h. least_at (k + 1) n j (omega arith) (omega arith))
    where
      go : Dec (k < j) → (k < j → least_in f (k + 1) n ≤ least_key (f j)) → least_in f k (suc n) ≤ least_key (f j)
      go (yes h) more = omega (arith, least_more k n, more h)
      go (no h) _ = let e : j ≡ k = omega arith in rw e (omega (arith, least_more k n))

-- two kinds of faults of each thing
pub least_both : (f g h : ℕ → List Fault) → ((j : ℕ) → least_key (h j) ≡ min (least_key (f j)) (least_key (g j))) → (k n : ℕ)
    → least_in h k n ≡ min (least_in f k n) (least_in g k n)
least_both f g h e k zero = omega (arith, least_none f k, least_none g k, least_none h k)
least_both f g h e k (suc n) = omega (arith, least_more f k n, least_more g k n, least_more h k n, e k, least_both f g h e (k + 1) n)

-- a bound of each thing's keys is one of the least
pub least_bound : (f g : ℕ → List Fault) (b k n : ℕ) → ((j : ℕ) → k ≤ j → j < k + n → min (least_key (f j)) b ≤ least_key (g j)) → min (least_in f k n) b ≤ least_in g k n
least_bound f g b k zero h = omega (arith, least_none f k, least_none g k)
least_bound f g b k (suc n) h =
    omega (arith, least_more f k n, least_more g k n, h k (omega arith) (omega arith), least_bound f g b (k + 1) n (λ j l m. h j (omega arith) (omega arith)))

-- THREE TESTS AT ONE PLACE
pub when_or : (a b : Bool) (n p : ℕ) → least_key (when (a || b) n p) ≡ min (least_key (when a n p)) (least_key (when b n p))
unfolding least_by
when_or true true n p = omega arith
when_or true false n p = omega arith
when_or false true n p = omega arith
when_or false false n p = refl

min_assoc : (a b c : ℕ) → min (min a b) c ≡ min a (min b c)
min_assoc a b c = omega arith

min_pairs : (a b c d : ℕ) → min (min a b) (min c d) ≡ min (min a c) (min b d)
min_pairs a b c d = omega arith

-- ONE THING MORE of two kinds of faults, and the last
module _ (f g : ℕ → List Fault) (k n a b : ℕ) (is_f : a ≡ least_key (f n)) (is_g : b ≡ least_key (g n)) where
  pub next_of_both : (m : ℕ) → min (min k (min a b)) (min (least_in f (n + 1) m) (least_in g (n + 1) m)) ≡ min k (min (least_in f n (suc m)) (least_in g n (suc m)))
  next_of_both m =
      min_assoc k (min a b) (min (least_in f (n + 1) m) (least_in g (n + 1) m))
      ∙ ap (min k)
      (min_pairs a b (least_in f (n + 1) m) (least_in g (n + 1) m)
      ∙ ap₂ min (ap (λ x. min x (least_in f (n + 1) m)) is_f ∙ sym (least_more f n m)) (ap (λ x. min x (least_in g (n + 1) m)) is_g ∙ sym (least_more g n m)))

  pub last_of_both : min k (min a b) ≡ min k (min (least_in f n 1) (least_in g n 1))
  last_of_both =
      omega (arith, is_f, is_g, least_more f n 0, least_more g n 0, least_none f (n + 1), least_none g (n + 1), least_bounded key (f n), least_bounded key (g n))
