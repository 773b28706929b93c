-- Laws of what is remembered: it is read back, and that of other bodies stays.
use Rattle.std.specs.Prelude.{ℕ, ◌+◌, ◌*◌, ◌/◌, ◌%◌, ◌^◌, ◌<◌, ◌≤◌, ◌≡◌, Bool, true, false, List, eqb, length, get_or}
use Rattle.std.proofs.Common.{sym, ap, ◌∙◌, arith}
use Rattle.cells.specs.Cells.{cell, put_cell}
use Rattle.cells.proofs.Laws.{cell_same, cell_other}
use Rattle.rules.specs.Whole.Sets.{Sets}
use Rattle.reading.specs.Bits.{holds}
use Rattle.reading.specs.Laws.Bits.{same_words_lem}
use Rattle.gathering.specs.Memory.{Put, PutWords, words_at, mark_for, Stored, Entry}

pub put_cell_lem : (b : List ℕ) (i v : ℕ) → 8 * i + 8 ≤ length b → v < 2 ^ 64 → Put b (put_cell 8 b i v) i v
put_cell_lem b i v h l = record { here = cell_same 8 b i v h l; elsewhere = cell_other 8 b i v }

pub put_words : {a₀ a₁ a₂ a₃ a₄ : List ℕ} {c : ℕ} (w : List ℕ) → Put a₀ a₁ c (get_or w 0 0) → Put a₁ a₂ (c + 1) (get_or w 1 0) → Put a₂ a₃ (c + 2) (get_or w 2 0)
    → Put a₃ a₄ (c + 3) (get_or w 3 0) → PutWords a₀ a₄ c w
put_words {a₀} {a₁} {a₂} {a₃} {a₄} {c} w p q r s = record {
  words = same_words_lem (words_at a₄ c) w
      (s.elsewhere c (λ e. omega arith) ∙ (r.elsewhere c (λ e. omega arith) ∙ (q.elsewhere c (λ e. omega arith) ∙ p.here)))
      (s.elsewhere (c + 1) (λ e. omega arith) ∙ (r.elsewhere (c + 1) (λ e. omega arith) ∙ q.here))
      (s.elsewhere (c + 2) (λ e. omega arith) ∙ r.here)
      s.here;
  elsewhere = λ j n. s.elsewhere j (λ e. n (omega arith) (omega arith)) ∙ (r.elsewhere j (λ e. n (omega arith) (omega arith))
      ∙ (q.elsewhere j (λ e. n (omega arith) (omega arith)) ∙ p.elsewhere j (λ e. n (omega arith) (omega arith))));
}

words_kept : (old new : List ℕ) (c : ℕ) → ((j : ℕ) → c ≤ j → j < c + 4 → cell 8 new j ≡ cell 8 old j) → (k : ℕ) → holds (words_at new c) k ≡ holds
    (words_at old c) k
words_kept old new c h = same_words_lem (words_at new c) (words_at old c) (h c (omega arith) (omega arith)) (h (c + 1) (omega arith) (omega arith))
    (h (c + 2) (omega arith) (omega arith))
    (h (c + 3) (omega arith) (omega arith))

-- the word of a declaration takes a mark
pub marks_stopping : {s : Bool} (word : ℕ) → s ≡ true → ((word / 65536 * 65536 + 2) % 65536 ≡ mark_for s) × ((word / 65536 * 65536 + 2) / 65536 ≡ word / 65536)
marks_stopping word e = (let two : (word / 65536 * 65536 + 2) % 65536 ≡ 2 = omega arith in two ∙ ap mark_for (sym e), omega arith)

pub marks_gathered : {s : Bool} (word : ℕ) → s ≡ false → ((word / 65536 * 65536 + 1) % 65536 ≡ mark_for s) × ((word / 65536 * 65536 + 1) / 65536 ≡ word / 65536)
marks_gathered word e = (let one : (word / 65536 * 65536 + 1) % 65536 ≡ 1 = omega arith in one ∙ ap mark_for (sym e), omega arith)

pub stored : {a₀ a₁ a₂ a₃ : List ℕ} {k f mark word : ℕ} (reads writes : List ℕ) → PutWords a₀ a₁ (9 * k + 1) reads → PutWords a₁ a₂ (9 * k + 5) writes
    → word ≡ cell 8 a₂ (9 * k) → Put a₂ a₃ (9 * k) f → f % 65536 ≡ mark → f / 65536 ≡ word / 65536 → Stored a₀ a₃ k reads writes mark
stored {a₀} {a₁} {a₂} {a₃} {k} reads writes p q before r e g = record {
  marked = ap (λ (x : ℕ). x % 65536) r.here ∙ e;
  carrier = ap (λ (x : ℕ). x / 65536 % 65536) r.here ∙ (ap (λ (x : ℕ). x % 65536) g ∙ ap (λ (x : ℕ). x / 65536 % 65536)
      (before ∙ (q.elsewhere (9 * k) (λ x y. omega arith) ∙ p.elsewhere (9 * k) (λ x y. omega arith))));
  reads = λ c. words_kept a₁ a₃ (9 * k + 1) (λ j l h. r.elsewhere j (λ e. omega arith) ∙ q.elsewhere j (λ x y. omega arith)) c ∙ p.words c;
  writes = λ c. words_kept a₂ a₃ (9 * k + 5) (λ j l h. r.elsewhere j (λ e. omega arith)) c ∙ q.words c;
  elsewhere = λ j n. r.elsewhere j (λ e. n (omega arith) (omega arith))
      ∙ (q.elsewhere j (λ x y. n (omega arith) (omega arith)) ∙ p.elsewhere j (λ x y. n (omega arith) (omega arith)));
}

-- another entry is stored
pub entry_kept : {old new : List ℕ} {k mark : ℕ} {reads writes : List ℕ} → Stored old new k reads writes mark → (j : ℕ) → (j ≡ k → ⊥)
    → {s : Sets} {stops : Bool}
    → Entry old j s stops → Entry new j s stops
entry_kept {old} {new} {k} p j n e = record {
  reads = λ c. words_kept old new (9 * j + 1) (λ i l h. p.elsewhere i (λ x y. n (omega arith))) c ∙ e.reads c;
  writes = λ c. words_kept old new (9 * j + 5) (λ i l h. p.elsewhere i (λ x y. n (omega arith))) c ∙ e.writes c;
  stopping = ap (λ (x : ℕ). eqb (x % 65536) 2) (p.elsewhere (9 * j) (λ x y. n (omega arith))) ∙ e.stopping;
}
