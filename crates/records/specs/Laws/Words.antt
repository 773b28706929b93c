-- Laws of the words of two names, compared byte by byte.
-- Assumes nothing.
use Rattle.std.specs.Prelude.{ℕ, suc, ◌+◌, ◌-◌, ◌<◌, ◌≤◌, ◌≡◌, refl, Bool, true, false, ◌&&◌, List, [], ◌∷◌, eqb, length, get_or, take, drop}
use Rattle.std.proofs.Common.{sym, ap, ◌∙◌, arith, eq-eqb, ne_eqb, length-take, length-drop, drop-cons}
use Rattle.std.proofs.Math.Bool.{and-false}
use Rattle.std.proofs.lemmas.List.{length-map}
use Rattle.rules.specs.Text.Bytes.{fold}
use Rattle.rules.specs.Text.Scan.{same_bytes}
use Rattle.rules.specs.Grammar.Trees.{Tokens}
use Rattle.records.specs.Holds.{size_byte, place_cell, token_at, size_of, folded_at, Holds}
use Rattle.records.specs.Words.{word_at, NameAt, same_words, TwoNames}

-- a run of bytes from a on, when k of its n bytes are passed
module _ (text : List ℕ) (a n k : ℕ) (room : a + n ≤ length text) (h : k < n) where
  run_next : folded_at text (a + k) (n - k) ≡ fold (get_or text (a + k) 0) ∷ folded_at text (a + (k + 1)) (n - (k + 1))
  run_next =
      let more : n - k ≡ suc (n - (k + 1)) = omega arith in
      let next : a + (k + 1) ≡ suc (a + k) = omega arith in
      let inside : a + k < length text = omega arith in
      rw (more, next, drop-cons text (a + k) 0)

module _ (text : List ℕ) (a b n k : ℕ) (ha : a + n ≤ length text) (hb : b + n ≤ length text) (h : k < n) where
  both_next : same_bytes (folded_at text (a + k) (n - k)) (folded_at text (b + k) (n - k))
      ≡ (eqb (fold (get_or text (a + k) 0)) (fold (get_or text (b + k) 0))
      && same_bytes (folded_at text (a + (k + 1)) (n - (k + 1))) (folded_at text (b + (k + 1)) (n - (k + 1))))
  unfolding same_bytes
  both_next = rw (run_next text a n k ha h, run_next text b n k hb h, same_bytes)

  pub same_next : fold (get_or text (a + k) 0) ≡ fold (get_or text (b + k) 0)
      → same_bytes (folded_at text (a + k) (n - k)) (folded_at text (b + k) (n - k))
      ≡ same_bytes (folded_at text (a + (k + 1)) (n - (k + 1))) (folded_at text (b + (k + 1)) (n - (k + 1)))
  same_next e = both_next ∙ rw (eq-eqb _ _ e)

  pub differ_next : (fold (get_or text (a + k) 0) ≡ fold (get_or text (b + k) 0) → ⊥)
      → same_bytes (folded_at text (a + k) (n - k)) (folded_at text (b + k) (n - k)) ≡ false
  differ_next d = both_next ∙ rw (ne_eqb _ _ d)

pub same_end : (text : List ℕ) (a b n k : ℕ) → n ≤ k → same_bytes (folded_at text (a + k) (n - k)) (folded_at text (b + k) (n - k)) ≡ true
unfolding same_bytes
same_end text a b n k h = let none : n - k ≡ 0 = omega arith in rw (none, same_bytes)

-- words of different lengths differ
pub differ_length : (x y : List ℕ) → (length x ≡ length y → ⊥) → same_bytes x y ≡ false
unfolding same_bytes
differ_length [] [] n = absurd (n refl)
differ_length [] (c ∷ y) n = refl
differ_length (b ∷ x) [] n = refl
differ_length (b ∷ x) (c ∷ y) n = rw (same_bytes, differ_length x y (λ e. n (ap suc e)), and-false)

-- what the table has for a name
module _ {text records values : List ℕ} {ts : Tokens} (h : Holds text records values ts) {i : ℕ} (n : NameAt ts i) where
  pub word_size : size_byte records i ≡ length (word_at ts i)
  word_size =
      let e = h.entry i n.within in
      let w = e.word n.kind in
      e.size ∙ sym (ap length w.folded ∙ length-map (take (size_of (token_at ts i).info) (drop (token_at ts i).info.place text)) fold
      ∙ length-take (size_of (token_at ts i).info) (drop (token_at ts i).info.place text)
      ∙ omega (arith, w.inside, length-drop (token_at ts i).info.place text))

  pub word_folded : word_at ts i ≡ folded_at text (place_cell records i) (size_byte records i)
  word_folded = let e = h.entry i n.within in (e.word n.kind).folded ∙ rw (e.size, e.place)

  pub word_inside : place_cell records i + size_byte records i ≤ length text
  word_inside = let e = h.entry i n.within in rw (e.size, e.place) (e.word n.kind).inside

module _ {text records : List ℕ} {i j : ℕ} (v : TwoNames text records i j) {n m : ℕ} (size_i : n ≡ size_byte records i) (size_j : m ≡ size_byte records j) where
  pub other_size : (n ≡ m → ⊥) → false ≡ same_words v
  other_size d =
      sym (differ_length _ _ (λ e. d (size_i ∙ word_size v.holds v.first ∙ e ∙ sym (size_j ∙ word_size v.holds v.second))))

  module _ {a b : ℕ} (same : n ≡ m) (place_i : a ≡ place_cell records i) (place_j : b ≡ place_cell records j) where
    pub runs_inside : (a + n ≤ length text) × (b + n ≤ length text)
    runs_inside = (omega (arith, word_inside v.holds v.first), omega (arith, word_inside v.holds v.second))

    pub same_runs : {r : Bool} → r ≡ same_bytes (folded_at text a n) (folded_at text b n) → r ≡ same_words v
    same_runs e =
        let first : folded_at text a n ≡ word_at v.tokens i = rw (place_i, size_i) (sym (word_folded v.holds v.first)) in
        let second : folded_at text b n ≡ word_at v.tokens j = rw (place_j, same ∙ size_j) (sym (word_folded v.holds v.second)) in
        e ∙ ap (λ (x : List ℕ). same_bytes x (folded_at text b n)) first ∙ ap (same_bytes (word_at v.tokens i)) second
