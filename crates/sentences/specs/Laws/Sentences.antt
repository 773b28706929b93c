-- Laws of sentences: a number that is listed, a number that is not, and the ten of a number.
-- Assumes nothing.
use Rattle.std.specs.Prelude.{ℕ, zero, suc, ◌+◌, ◌*◌, ◌/◌, ◌≤◌, ◌≡◌, refl, List, [], ◌∷◌}
use Rattle.std.proofs.Common.{arith, ne_eqb}
use Rattle.lines.specs.Appended.{Appended}
use Rattle.lines.specs.Laws.Appended.{nothing_more}
use Rattle.sentences.specs.Sentences.{Sentence, among, ten, sentence}

pub said : (ss : List Sentence) (k n : ℕ) {before after : List ℕ} {at r : ℕ} → n ≡ k → Appended before after at r (among ss k)
    → Appended before after at r (among ss n)
said ss k n e h = rw e h

-- a number is none of those that are listed
abbrev pub Unlisted : List Sentence → ℕ → Type 0
Unlisted [] n = Unit
Unlisted (s ∷ ss) n = (n ≡ s.number → ⊥) × Unlisted ss n

pub none_said : (ss : List Sentence) (n : ℕ) → Unlisted ss n → among ss n ≡ []
unfolding among
none_said [] n u = refl
none_said (s ∷ ss) n u = rw (among, ne_eqb n s.number u.0) (none_said ss n u.1)

pub unsaid : (ss : List Sentence) (n : ℕ) {buffer : List ℕ} {at : ℕ} → Unlisted ss n → Appended buffer buffer at at (among ss n)
unsaid ss n u = rw (none_said ss n u) nothing_more

-- what is said of a number of the ten k
pub of_ten : (k n : ℕ) {before after : List ℕ} {at r : ℕ} → 10 * k ≤ n → n ≤ 10 * k + 9 → Appended before after at r (among (ten k) n)
    → Appended before after at r (sentence n)
unfolding sentence
of_ten k n low high h = rw (tens k n low high) h
  where
    tens : (k n : ℕ) → 10 * k ≤ n → n ≤ 10 * k + 9 → n / 10 ≡ k
    tens k n low high = omega arith

-- and of one behind all tens
pub of_none : (n : ℕ) {buffer : List ℕ} {at : ℕ} → 70 ≤ n → Appended buffer buffer at at (sentence n)
unfolding sentence among ten
of_none n h = rw (behind (n / 10) (omega arith)) nothing_more
  where
    behind : (t : ℕ) → 7 ≤ t → ten t ≡ []
    behind zero l = absurd (omega arith)
    behind (suc zero) l = absurd (omega arith)
    behind (suc (suc zero)) l = absurd (omega arith)
    behind (suc (suc (suc zero))) l = absurd (omega arith)
    behind (suc (suc (suc (suc zero)))) l = absurd (omega arith)
    behind (suc (suc (suc (suc (suc zero))))) l = absurd (omega arith)
    behind (suc (suc (suc (suc (suc (suc zero)))))) l = absurd (omega arith)
    behind (suc (suc (suc (suc (suc (suc (suc more))))))) l = refl
