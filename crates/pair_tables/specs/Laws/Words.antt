-- Laws of the words of names of two texts, compared byte by byte.
-- Assumes nothing.
use Rattle.std.specs.Prelude.{ℕ, suc, ◌+◌, ◌-◌, ◌<◌, ◌≤◌, ◌≡◌, Bool, true, false, ◌&&◌, List, ◌∷◌, eqb, length, get_or}
use Rattle.std.proofs.Common.{sym, ap, ◌∙◌, arith, eq-eqb, ne_eqb, drop-cons}
use Rattle.rules.specs.Text.Bytes.{fold}
use Rattle.rules.specs.Text.Scan.{same_bytes}
use Rattle.records.specs.Holds.{size_byte, place_cell, folded_at}
use Rattle.records.specs.Laws.Words.{differ_length, word_size, word_folded, word_inside}
use Rattle.pair_tables.specs.Words.{NameIn, word_in}

-- a run of bytes from a on, when k of its n bytes are passed
module _ (text : List ℕ) (a n k : ℕ) (room : a + n ≤ length text) (h : k < n) where
  run_next : folded_at text (a + k) (n - k) ≡ fold (get_or text (a + k) 0) ∷ folded_at text (a + (k + 1)) (n - (k + 1))
  run_next =
      let more : n - k ≡ suc (n - (k + 1)) = omega arith in
      let next : a + (k + 1) ≡ suc (a + k) = omega arith in
      let inside : a + k < length text = omega arith in
      rw (more, next, drop-cons text (a + k) 0)

module _ (text₀ text₁ : List ℕ) (a b n k : ℕ) (ha : a + n ≤ length text₀) (hb : b + n ≤ length text₁) (h : k < n) where
  both_next : same_bytes (folded_at text₀ (a + k) (n - k)) (folded_at text₁ (b + k) (n - k))
      ≡ (eqb (fold (get_or text₀ (a + k) 0)) (fold (get_or text₁ (b + k) 0))
      && same_bytes (folded_at text₀ (a + (k + 1)) (n - (k + 1))) (folded_at text₁ (b + (k + 1)) (n - (k + 1))))
  unfolding same_bytes
  both_next = rw (run_next text₀ a n k ha h, run_next text₁ b n k hb h, same_bytes)

  pub same_next : fold (get_or text₀ (a + k) 0) ≡ fold (get_or text₁ (b + k) 0)
      → same_bytes (folded_at text₀ (a + k) (n - k)) (folded_at text₁ (b + k) (n - k))
      ≡ same_bytes (folded_at text₀ (a + (k + 1)) (n - (k + 1))) (folded_at text₁ (b + (k + 1)) (n - (k + 1)))
  same_next e = both_next ∙ rw (eq-eqb _ _ e)

  pub differ_next : (fold (get_or text₀ (a + k) 0) ≡ fold (get_or text₁ (b + k) 0) → ⊥)
      → same_bytes (folded_at text₀ (a + k) (n - k)) (folded_at text₁ (b + k) (n - k)) ≡ false
  differ_next d = both_next ∙ rw (ne_eqb _ _ d)

pub same_end : (text₀ text₁ : List ℕ) (a b n k : ℕ) → n ≤ k → same_bytes (folded_at text₀ (a + k) (n - k)) (folded_at text₁ (b + k) (n - k)) ≡ true
unfolding same_bytes
same_end text₀ text₁ a b n k h = let none : n - k ≡ 0 = omega arith in rw (none, same_bytes)

-- two names by the sizes of their words, and by their bytes
module _ {text₀ records₀ text₁ records₁ : List ℕ} {i j : ℕ} {n m : ℕ} (size_i : n ≡ size_byte records₀ i) (size_j : m ≡ size_byte records₁ j)
    (v : NameIn text₀ records₀ i) (w : NameIn text₁ records₁ j) where
  pub other_size : (n ≡ m → ⊥) → false ≡ same_bytes (word_in v) (word_in w)
  other_size d =
      sym (differ_length _ _ (λ e. d (size_i ∙ word_size v.holds v.name ∙ e ∙ sym (size_j ∙ word_size w.holds w.name))))

  module _ {a b : ℕ} (same : n ≡ m) (place_i : a ≡ place_cell records₀ i) (place_j : b ≡ place_cell records₁ j) where
    pub runs_inside : (a + n ≤ length text₀) × (b + n ≤ length text₁)
    runs_inside = (omega (arith, word_inside v.holds v.name), omega (arith, word_inside w.holds w.name))

    pub same_runs : {r : Bool} → r ≡ same_bytes (folded_at text₀ a n) (folded_at text₁ b n) → r ≡ same_bytes (word_in v) (word_in w)
    same_runs e =
        let first : folded_at text₀ a n ≡ word_in v = rw (place_i, size_i) (sym (word_folded v.holds v.name)) in
        let second : folded_at text₁ b n ≡ word_in w = rw (place_j, same ∙ size_j) (sym (word_folded w.holds w.name)) in
        e ∙ ap (λ (x : List ℕ). same_bytes x (folded_at text₁ b n)) first ∙ ap (same_bytes (word_in v)) second
