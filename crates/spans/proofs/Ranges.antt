-- Laws of names of bits and words as numbers.
-- Assumes nothing.
use Prim.Native.Nat.{ℕ, ◌+◌, ◌<◌, ◌≤◌, min, max}
use mathlib.Core.Path.{◌≡◌, refl, sym, ap, ◌∙◌}
use mathlib.Core.Bool.{Bool, true, false, not, and-false, or-true, or-false}
use native.Mathlib.Omega.{arith}
use native.Mathlib.Decide.{dec_lt}
use borrow.Author.Tests.{lt-ltb, le-ltb, le-leb, lt-leb, eq-eqb, ne_eqb, not-true, not-false, ltb-false}
use lib.Dec.{leb, ltb, eqb}
use Rattle.rules.specs.Limits.{most_bits}
use Rattle.rules.specs.Declarations.{names, how_many, these}
use Rattle.rules.specs.Faults.Declared.{far_names, among, inside}
use Rattle.table.specs.declared.views.Names.{Names}
use Rattle.table.specs.declared.views.Names.TheVariants.{Missing, Unnamed, Span}
use Rattle.spans.specs.Spans.{far_shown, large_shown, missing_shown, count_shown, storage_shown, same_count, fits_in, fits_shown}

-- the same test in other words
ltb_same : (a b c d : ℕ) → (a < b → c < d) → (c < d → a < b) → ltb a b ≡ ltb c d
ltb_same a b c d f g = by (dec_lt a b)
  where
    by : Dec (a < b) → ltb a b ≡ ltb c d
    by (yes l) = lt-ltb a b l ∙ sym (lt-ltb c d (f l))
    by (no n) = le-ltb a b (omega arith) ∙ sym (le-ltb c d (not_below (λ l. n (g l))))
      where
        not_below : (c < d → ⊥) → d ≤ c
        not_below h = omega arith

-- one test by another
leb_ltb : (n d : ℕ) → leb n d ≡ ltb n (d + 1)
leb_ltb n d = by (dec_lt d n)
  where
    by : Dec (d < n) → leb n d ≡ ltb n (d + 1)
    by (yes l) = lt-leb n d l ∙ sym (le-ltb n (d + 1) (omega arith))
    by (no f) = le-leb n d (omega arith) ∙ sym (lt-ltb n (d + 1) (omega arith))

ltb_leb : (t f : ℕ) → ltb t f ≡ not (leb f t)
ltb_leb t f = by (dec_lt t f)
  where
    by : Dec (t < f) → ltb t f ≡ not (leb f t)
    by (yes l) = lt-ltb t f l ∙ rw (lt-leb f t l)
    by (no n) = le-ltb t f (omega arith) ∙ sym (ap not (le-leb f t (omega arith)))

module _ (l r : ℕ) where
  pub left_far : 4095 < l → true ≡ far_names (names l r)
  left_far h = sym (lt-ltb 4095 (max l r) (omega arith))

  pub right_far : l ≤ 4095 → ltb 4095 r ≡ far_names (names l r)
  right_far h = ltb_same 4095 r 4095 (max l r) (λ q. omega arith) (λ q. omega arith)

  module _ {b : Bool} (far : b ≡ far_names (names l r)) where
    pub far_span : {x : Names} → x ≡ Span l r → b ≡ far_shown x
    far_span e = far ∙ sym (ap far_shown e)

    pub far_bits : {x : Names} → x ≡ Span l r → b ≡ true → true ≡ large_shown x
    far_bits e y = rw (e, sym far ∙ y) (sym (or-true (ltb most_bits (how_many (names l r)))))

    pub many_bits : {x : Names} (d : ℕ) → x ≡ Span l r → b ≡ false → d + 1 ≡ how_many (names l r) → leb 64 d ≡ large_shown x
    many_bits d e y c = rw (e, sym far ∙ y, sym c) (leb_ltb 64 d ∙ sym (or-false (ltb most_bits (d + 1))))

  pub last_span : {x : Names} (d : ℕ) → x ≡ Span l r → d + 1 ≡ how_many (names l r) → d + 1 ≡ count_shown x
  last_span d e c = c ∙ sym (ap count_shown e)

module _ (l r n : ℕ) where
  pub below_both : n < min l r → false ≡ among (names l r) n
  unfolding among
  below_both h = rw (lt-leb (min l r) n h) refl

  pub up_to_larger : (e : ℕ) → e ≡ max l r → min l r ≤ n → leb n e ≡ among (names l r) n
  unfolding among
  up_to_larger e is h = rw (le-leb (min l r) n h, is)

module _ (l r f t : ℕ) {a : Bool} (first : a ≡ among (names l r) f) where
  pub first_outside : not a ≡ true → false ≡ inside (these (names l r)) (names f t)
  unfolding inside
  first_outside n = rw (inside, sym first ∙ not-true a n)

  module _ {b : Bool} (last : b ≡ among (names l r) t) where
    pub last_outside : not b ≡ true → false ≡ inside (these (names l r)) (names f t)
    unfolding inside
    last_outside n = rw (inside, sym last ∙ not-true b n) (sym (and-false (among (names l r) f)))

    module _ (first_in_lem : not a ≡ false) (last_in : not b ≡ false) where
      both_in : (among (names l r) f ≡ true) × (among (names l r) t ≡ true)
      both_in = (sym first ∙ not-false a first_in_lem, sym last ∙ not-false b last_in)

      pub one_bit : f ≡ t → true ≡ inside (these (names l r)) (names f t)
      unfolding inside
      one_bit e = rw (inside, both_in.0, both_in.1, eq-eqb f t e)

      pub both_rise : (f ≡ t → ⊥) → l ≤ r → leb f t ≡ inside (these (names l r)) (names f t)
      unfolding inside
      both_rise n h = rw (inside, both_in.0, both_in.1, ne_eqb f t n, le-leb l r h)

      pub both_fall : (f ≡ t → ⊥) → r < l → ltb t f ≡ inside (these (names l r)) (names f t)
      unfolding inside
      both_fall n h = rw (inside, both_in.0, both_in.1, ne_eqb f t n, lt-leb l r h) (ltb_leb t f)

eqb_same : (a b c d : ℕ) → a + 1 ≡ c → b + 1 ≡ d → eqb a b ≡ eqb c d
eqb_same a b c d e f = by (dec_lt a b) (dec_lt b a)
  where
    by : Dec (a < b) → Dec (b < a) → eqb a b ≡ eqb c d
    by (yes l) _ = ne_eqb a b (λ z. omega arith) ∙ sym (ne_eqb c d (λ z. omega arith))
    by (no _) (yes l) = ne_eqb a b (λ z. omega arith) ∙ sym (ne_eqb c d (λ z. omega arith))
    by (no m) (no n) = eq-eqb a b (omega arith) ∙ sym (eq-eqb c d (omega arith))

module _ (f t e : ℕ) (on : e + 1 ≡ how_many (names f t)) {x : Names} where
  pub as_many_named : (l r d : ℕ) → x ≡ Span l r → d + 1 ≡ how_many (names l r) → eqb d e ≡ same_count x (names f t)
  as_many_named l r d q c = rw q (eqb_same d e _ _ c on)

  pub one_unnamed : x ≡ Unnamed → eqb 0 e ≡ same_count x (names f t)
  one_unnamed q = rw q (eqb_same 0 e _ _ refl on)

module _ (l r : ℕ) (own : Names) {on : Names} (f t : ℕ) {b : Bool} (is : on ≡ Span f t) (lies : b ≡ inside (these (names l r)) (names f t)) where
  pub not_inside : not b ≡ true → false ≡ fits_in (names l r) own on
  not_inside n = rw (is, sym lies ∙ not-true b n)

  pub inside_then : {c : Bool} → not b ≡ false → c ≡ same_count own (names f t) → c ≡ fits_in (names l r) own on
  inside_then n e = rw (is, sym lies ∙ not-false b n) e

pub fits_span : (l r : ℕ) (own on : Names) {x : Names} {b : Bool} → x ≡ Span l r → b ≡ fits_in (names l r) own on → b ≡ fits_shown x own on
fits_span l r own on is e = rw is e

-- names that are not too large are few
pub few_words : (w : Names) → far_shown w ≡ false → count_shown w ≤ 4096
unfolding how_many
few_words Missing e = omega arith
few_words Unnamed e = omega arith
few_words (Span l r) e = omega (arith, ltb-false 4095 (max l r) e)

module _ (b w : Names) {x : Bool} (bits : x ≡ missing_shown b) where
  pub no_storage : x ≡ true → (0 ≡ storage_shown b w) × (0 ≤ 4096)
  no_storage y = (rw (storage_shown, sym bits ∙ y), omega arith)

  pub storage : (n : ℕ) → x ≡ false → far_shown w ≡ false → n + 1 ≡ count_shown w → (n + 1 ≡ storage_shown b w) × (n + 1 ≤ 4096)
  storage n y s e = (rw (storage_shown, sym bits ∙ y) e, omega (arith, few_words w s))
