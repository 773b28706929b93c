-- Laws of 61: the words of one declaration, and what is left behind them.
-- Assumes nothing.
use Prim.Native.Nat.{ℕ, zero, suc, ◌+◌, ◌*◌, ◌-◌, ◌^◌, ◌<◌, ◌≤◌}
use Rattle.std.specs.Prelude.{◌≡◌, refl, replicate}
use Rattle.std.proofs.Common.{sym, ◌∙◌}
use Rattle.std.proofs.Math.Path.{ap}
use mathlib.Core.List.{List, ◌∷◌, ◌++◌}
use Rattle.std.proofs.Math.Option.{Option, none, some}
use native.Mathlib.Omega.{arith}
use borrow.Author.Tests.{le-leb, lt-leb}
use Rattle.cells.specs.Cells.{le_at, cells_from}
use Rattle.rules.specs.Declarations.{Names as Span-of, BitNames, one_unnamed, these, bit_count, Target, storage_words, words_of, Declared, Table, total_words}
use Rattle.rules.specs.Answers.{length_of, word_lengths, long_word}
use Rattle.table.specs.Shown.{shown_bits}
use Rattle.spans.specs.Spans.{count_shown}
use Rattle.starts.specs.Sought.{Sought}

-- the first word with a bit above its length, of those from o on
abbrev pub long_from : List ℕ → ℕ → List ℕ → ℕ → Option ℕ
long_from b o ns n = long_word o ns (cells_from 8 b o n)

-- one word
module _ (o n w : ℕ) (ns ws : List ℕ) where
  short_word : w < 2 ^ n → long_word o (n ∷ ns) (w ∷ ws) ≡ long_word (o + 8) ns ws
  unfolding long_word
  short_word l = rw (long_word, lt-leb (2 ^ n) w l)

  long_word_lem : 2 ^ n ≤ w → long_word o (n ∷ ns) (w ∷ ws) ≡ some o
  unfolding long_word
  long_word_lem l = rw (long_word, le-leb (2 ^ n) w l)

-- words of one length
module _ (b : List ℕ) (bits rest : ℕ) (ns : List ℕ) where
  -- the first w of those from o on have no bit above it
  abbrev Fit : ℕ → ℕ → Type 0
  Fit o w = (i : ℕ) → i < w → le_at 8 b (o + 8 * i) < 2 ^ bits

  fit_first : (o w : ℕ) → Fit o (suc w) → le_at 8 b o < 2 ^ bits
  fit_first o w fit = let q : o + 8 * 0 ≡ o = omega arith in rw q at (fit 0 (omega arith))

  fit_next : (o w : ℕ) → Fit o (suc w) → Fit (o + 8) w
  fit_next o w fit i l = let q : o + 8 * (i + 1) ≡ o + 8 + 8 * i = omega arith in rw q at (fit (i + 1) (omega arith))

  all_fit : (w n o : ℕ) → n ≡ w + rest → Fit o w → long_from b o (replicate w bits ++ ns) n ≡ long_from b (o + 8 * w) ns rest
  unfolding cells_from
  all_fit zero n o e fit =
      let same : n ≡ rest = omega arith in
      let here : o + 8 * 0 ≡ o = omega arith in
      rw (same, here)
  all_fit (suc w) zero o e fit = absurd (omega arith)
  all_fit (suc w) (suc n) o e fit =
      short_word o bits (le_at 8 b o) (replicate w bits ++ ns) (cells_from 8 b (o + 8) n) (fit_first o w fit)
      ∙ all_fit w n (o + 8) (omega arith) (fit_next o w fit)
      ∙ ap (λ (z : ℕ). long_from b z ns rest) (omega arith)

  one_long : (w n o j : ℕ) → n ≡ w + rest → j < w → Fit o j → 2 ^ bits ≤ le_at 8 b (o + 8 * j) → long_from b o (replicate w bits ++ ns) n ≡ some (o + 8 * j)
  unfolding cells_from
  one_long zero n o j e l fit long = absurd (omega arith)
  one_long (suc w) zero o j e l fit long = absurd (omega arith)
  one_long (suc w) (suc n) o zero e l fit long =
      let here : o + 8 * 0 ≡ o = omega arith in
      long_word_lem o bits (le_at 8 b o) (replicate w bits ++ ns) (cells_from 8 b (o + 8) n) (rw here at long) ∙ ap some (sym here)
  one_long (suc w) (suc n) o (suc j) e l fit long =
      let there : o + 8 * suc j ≡ o + 8 + 8 * j = omega arith in
      short_word o bits (le_at 8 b o) (replicate w bits ++ ns) (cells_from 8 b (o + 8) n) (fit_first o j fit)
      ∙ one_long w n (o + 8) j (omega arith) (omega arith) (fit_next o j fit) (rw there at long)
      ∙ ap some (sym there)

-- the length of a declaration's words, as the code has it: one without bits has no words
lengths_of : (t : Option Target) (b : Option BitNames) (w : Option Span-of)
    → replicate (storage_words t b w) (length_of b) ≡ replicate (storage_words t b w) (count_shown (shown_bits b))
unfolding storage_words bit_count
lengths_of none none w = refl
lengths_of (some t) none w = refl
lengths_of t (some one_unnamed) w = refl
lengths_of t (some (these s)) w = refl

module _ (b : List ℕ) (x : Declared) (ds : Table) {n : ℕ} (bits : count_shown (shown_bits x.bits) ≡ n) where
  opened : (o : ℕ)
      → long_from b o (word_lengths (x ∷ ds)) (total_words (x ∷ ds)) ≡ long_from b o (replicate (words_of x) n ++ word_lengths ds) (words_of x + total_words ds)
  unfolding word_lengths total_words
  opened o =
      ap (λ (ns : List ℕ). long_from b o (ns ++ word_lengths ds) (words_of x + total_words ds))
      (lengths_of x.target x.bits x.words ∙ ap (replicate (words_of x)) bits)

  module _ {at end r : ℕ} (s : Sought b at end n r) (last : end ≡ at + words_of x) where
    fits_before : (i : ℕ) → at + i < r → le_at 8 b (8 * at + 8 * i) < 2 ^ n
    fits_before i l = let q : 8 * (at + i) ≡ 8 * at + 8 * i = omega arith in rw q at (s.fit (at + i) (omega arith) l)

    -- none of its words is long
    pub declaration_passed : end ≤ r → long_from b (8 * at) (word_lengths (x ∷ ds)) (total_words (x ∷ ds)) ≡ long_from b (8 * end) (word_lengths ds) (total_words ds)
    declaration_passed l =
        opened (8 * at)
        ∙ all_fit b n (total_words ds) (word_lengths ds) (words_of x) (words_of x + total_words ds) (8 * at) refl (λ i h. fits_before i (omega arith))
        ∙ ap (λ (z : ℕ). long_from b z (word_lengths ds) (total_words ds)) (omega arith)

    -- one of its words is long
    pub declaration_long : r < end → long_from b (8 * at) (word_lengths (x ∷ ds)) (total_words (x ∷ ds)) ≡ some (8 * r)
    declaration_long l =
        let there : 8 * r ≡ 8 * at + 8 * (r - at) = omega (arith, s.least) in
        opened (8 * at)
        ∙ one_long b n (total_words ds) (word_lengths ds) (words_of x) (words_of x + total_words ds) (8 * at) (r - at) refl (omega (arith, s.least))
        (λ i h. fits_before i (omega arith)) (rw there at (s.long l))
        ∙ ap some (sym there)
