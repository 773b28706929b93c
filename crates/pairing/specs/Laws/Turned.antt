-- Laws of the turns of two accepted texts: from their tables to the sides, and from the turns to the answer.
-- Assumes nothing.
use Prim.Native.Nat.{ℕ, zero, suc, ◌+◌, ◌*◌, ◌/◌, ◌<◌, ◌≤◌}
use Rattle.std.specs.Prelude.{◌≡◌, set}
use Rattle.std.proofs.Math.Path.{refl, ap}
use Rattle.std.proofs.Common.{sym, ◌∙◌, subst, ext_get_or}
use mathlib.Core.List.{List, [], ◌∷◌}
use Rattle.std.proofs.Math.Option.{Option, none, some}
use native.Mathlib.Omega.{arith}
use Rattle.std.proofs.Math.ListN.{length, get_or}
use Rattle.cells.specs.Cells.{cell, cells}
use Rattle.cells.proofs.Laws.{length_cells, cells_get}
use Rattle.rules.specs.Text.Scan.{scan}
use Rattle.rules.specs.Limits.{most_words}
use Rattle.rules.specs.Declarations.{Table, outer_name, words_of, total_words, first_word}
use Rattle.rules.specs.Answers.{words_from, buffer_of, ran_numbers}
use Rattle.rules.specs.Calls.Memory.{number_bytes}
use Rattle.rules.specs.Calls.Run.{ending_number}
use Rattle.rules.specs.Steps.Runs.{Ending, done, halted, paused, faulted}
use Rattle.rules.specs.Pair.{shared_with, unshared, joint, first_words, words_at, second_side, side_of}
use Rattle.rules.specs.Pair.{turns_taken, total_of, no_turns, together, paired_as, pair_on, Pairs, paired}
use Rattle.rules.specs.Calls.Pair.{text_of, pair_numbers}
use Rattle.pairs.specs.Cited.Views.{Below}
use Rattle.pairs.specs.Laws.Sharing.{total_append, words_below}
use Rattle.pairs.specs.Laws.Sides.{first_within}
use Rattle.laws_code.specs.Cited.Placed.{description_code}
use Rattle.table.specs.Laws.Kth.{table_length}
use Rattle.buffers.specs.Laws.Buffers.{words_cells, buffer_back}
use Rattle.accepted.specs.Accepted.{Accepts, described_by, table_by}
use Rattle.preparing.specs.Prepared.{Prepared}
use Rattle.lent.specs.Numbers.{numbers_of}
use Rattle.lent.specs.declared.answers.Answer.{Answer}
use Rattle.runner.specs.Runs.{ending_of, steps_of}
use Rattle.pair_turns.specs.Words.{table_words}
use Rattle.pair_turns.specs.Turns.{Runnable, Sides}
use Rattle.pair_turns.specs.Taking.{Took}
use Rattle.pair_turns.specs.declared.taking.Last.{Last}
use Rattle.pair_tables.specs.Judging.{Begins}
use Rattle.pairing.specs.Begun.{Numbered, BothBegun}
use Rattle.pairing.specs.Outcome.{Outcome}
use Rattle.pairing.specs.declared.turned.Begun.{Begun}

-- the first words of declarations: as many, and none behind the table
first_low : (first : Table) (i : ℕ) → first_word first i ≤ total_words first
unfolding first_word total_words
first_low [] i = omega arith
first_low (d ∷ ds) zero = omega arith
first_low (d ∷ ds) (suc i) = let h = first_low ds i in omega (arith, h)

module _ (first : Table) where
  count_firsts : (free : ℕ) (ds : Table) → length (first_words first free ds) ≡ length ds
  unfolding first_words
  count_firsts free [] = refl
  count_firsts free (d ∷ ds) = by (shared_with first d) (λ g. count_firsts g ds)
    where
      by : (o : Option ℕ) → ((g : ℕ) → length (first_words first g ds) ≡ length ds)
          → length {A = ℕ} (elim o [ some i ↦ first_word first i ∷ first_words first free ds | none ↦ free ∷ first_words first (free + words_of d) ds ])
          ≡ suc (length ds)
      by none h = ap suc (h (free + words_of d))
      by (some i) h = ap suc (h free)

  low_firsts : (free : ℕ) (ds : Table) (k : ℕ) → total_words first ≤ free → k < length ds
      → get_or (first_words first free ds) k 0 ≤ free + total_words (unshared first ds)
  unfolding first_words unshared total_words
  low_firsts free [] k h l = absurd (omega arith)
  low_firsts free (d ∷ ds) k h l = by (shared_with first d) k l (λ g j. low_firsts g ds j)
    where
      by : (o : Option ℕ) (k : ℕ) → k < suc (length ds)
          → ((g j : ℕ) → total_words first ≤ g → j < length ds → get_or (first_words first g ds) j 0 ≤ g + total_words (unshared first ds))
          → get_or {A = ℕ} (elim o [ some i ↦ first_word first i ∷ first_words first free ds | none ↦ free ∷ first_words first (free + words_of d) ds ]) k 0
          ≤ free + total_words (elim o [ none ↦ d ∷ unshared first ds | some i ↦ unshared first ds ])
      by none zero l ih = omega arith
      by none (suc k) l ih = let z = ih (free + words_of d) k (omega arith) (omega arith) in omega (arith, z)
      by (some i) zero l ih = let z = first_low first i in omega (arith, z)
      by (some i) (suc k) l ih = let z = ih free k h (omega arith) in omega (arith, z)

below_at : (n : ℕ) (xs : List ℕ) (i : ℕ) → Below n xs → i < length xs → get_or xs i 0 < n
below_at n [] i b l = absurd (omega arith)
below_at n (x ∷ xs) zero b l = b.0
below_at n (x ∷ xs) (suc i) b l = below_at n xs i b.1 (omega arith)

-- the number of an answer is the second of its numbers
side_number : (text : List ℕ) (e : Ending) (n side : ℕ) (a : Answer) → numbers_of a ≡ set (ran_numbers text e n) 4 side → a.number ≡ ending_number e
side_number text done n side a q = cc
side_number text halted n side a q = cc
side_number text paused n side a q = cc
side_number text (faulted m p) n side a q = cc

-- a text that is prepared can be run, whatever its carriers are
pub runnable : {text records values decls records' values' : List ℕ} {m words n start : ℕ} {v : Accepts text records values decls m words n}
    → Prepared v records' values' start
    → Runnable records' values' decls start (table_by v)
runnable {text} {v = v} p = record {
  text = text;
  tokens = (scan text).tokens;
  outer = (outer_name (described_by v)).word;
  code = description_code (described_by v);
  promise = p.promise;
  body = p.body;
  declared = p.declared;
  begins = p.begins;
}

module _ {text₀ records₀ values₀ decls₀ text₁ records₁ values₁ decls₁ : List ℕ} {m₀ words₀ n₀ m₁ words₁ n₁ : ℕ}
    (v : Accepts text₀ records₀ values₀ decls₀ m₀ words₀ n₀) (u : Accepts text₁ records₁ values₁ decls₁ m₁ words₁ n₁)
    {firsts carriers turns : List ℕ} (b : Begins (table_by v) (table_by u) firsts carriers turns) where
  abbrev first : Table
  first = table_by v

  abbrev second : Table
  second = table_by u

  count : length second ≡ m₁
  count = table_length u.lawful.declares.ready

  joint_words : total_words (joint first second) ≡ total_words first + total_words (unshared first second)
  joint_words = total_append first (unshared first second)

  pub numbered : 512 ≤ length firsts → Numbered firsts m₁
  numbered room = record {
    room = omega (arith, u.lawful.declares.ready.few);
    small = λ k l.
        let h = low_firsts first (total_words first) second k (omega arith) (omega (arith, count)) in
        omega (arith, h, b.firsts_at k (omega (arith, count)), b.carriers.few, joint_words);
  }

  firsts_are : cells 2 m₁ firsts ≡ first_words first (total_words first) second
  firsts_are =
      ext_get_or 0 (cells 2 m₁ firsts) (first_words first (total_words first) second)
      (length_cells 2 firsts 0 m₁ ∙ sym (count_firsts first (total_words first) second ∙ count))
      (λ i l. let h : i < m₁ = rw length_cells at l in cells_get 2 m₁ firsts i h ∙ b.firsts_at i (omega (arith, count)))

  module _ {records₀' values₀' view records₁' values₁' : List ℕ} {r : Begun} (g : BothBegun v u firsts records₀' values₀' view records₁' values₁' r)
      (room : 65536 ≤ length view) where
    pub views_are : cells 2 r.words view ≡ (second_side first second).view
    views_are = g.filled.is ∙ ap (words_at second) firsts_are

    pub few_words : r.words ≤ most_words
    few_words = omega (arith, g.filled.count, u.counted, u.few_words)

    pub sees_below : (i : ℕ) → i < r.words → cell 2 view i < length carriers / 8
    sees_below i l =
        let z = below_at (total_words first + total_words (unshared first second)) (second_side first second).view i
        (words_below first second (total_words first) (omega arith))
        (omega (arith, ap length views_are, length_cells 2 view 0 r.words)) in
        let e : cell 2 view i ≡ get_or (second_side first second).view i 0 = sym (cells_get 2 r.words view i l) ∙ ap (λ xs. get_or xs i 0) views_are in
        omega (arith, z, e, joint_words, b.carriers.long)

    abbrev pub sides : Sides records₀' values₀' decls₀ r.first words₀ records₁' values₁' decls₁ r.second r.words view (length carriers)
    sides = record {
      first = table_by v;
      second = table_by u;
      runs₀ = runnable g.first;
      runs₁ = runnable g.second;
      count₀ = v.counted;
      count₁ = g.filled.count;
      front = omega (arith, v.counted, b.carriers.long, first_within first second);
      sees = record { room = omega (arith, few_words); below = sees_below };
      views = views_are;
    }

    pub own_room : 8 * r.words ≤ 65536
    own_room = omega (arith, few_words)

  -- the answer, from what the turns came to
  pub turns_ended : {left : List ℕ} {budget : ℕ} {l : Last} {a : Answer} → Took first second turns budget carriers left l → length left ≡ length carriers
      → ((i : ℕ) → get_or left i 0 < 256) → numbers_of a ≡ pair_numbers text₀ text₁ (together (ending_of l.ended) l.side (steps_of l.ended) [])
      → Outcome text₀ text₁ carriers turns budget left a
  turns_ended {left} {budget} {l} {a} took long bytes is =
      let k = total_words (joint first second) in
      let whole : length carriers / 8 ≡ k = omega (arith, b.carriers.long) in
      let start : table_words carriers ≡ words_from k carriers = ap (λ z. cells 8 z carriers) whole ∙ words_cells k carriers in
      let end : buffer_of (table_words left) ≡ left =
      ap (λ z. buffer_of (cells 8 (z / 8) left)) (long ∙ b.carriers.long) ∙ ap (λ z. buffer_of (cells 8 z left)) (let e : 8 * k / 8 ≡ k = omega arith in e)
      ∙ ap buffer_of (words_cells k left) ∙ buffer_back k left (long ∙ b.carriers.long) bytes in
      let so : pair_on first second carriers turns budget ≡ together (ending_of l.ended) l.side (steps_of l.ended) left =
      b.pairs budget ∙ ap (λ ws. paired_as (total_of (no_turns ws) (turns_taken (side_of first second) turns budget ws))) (sym start) ∙ ap paired_as took.same
      ∙ ap (together (ending_of l.ended) l.side (steps_of l.ended)) end in
      record {
        result = together (ending_of l.ended) l.side (steps_of l.ended) left;
        pairs = subst (Pairs text₀ text₁ carriers turns budget) so
            (paired (described_by v) (described_by u) v.lawful.declares.reads u.lawful.declares.reads v.verdict u.verdict);
        tells = record {
          is = ap number_bytes is;
          number = side_number (text_of text₀ text₁ l.side) (ending_of l.ended) (steps_of l.ended)
              l.side a is;
        };
        left_is = refl;
      }
