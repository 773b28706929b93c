-- Laws of 61 of the joint table: the first text's words over the front, and those behind.
-- Assumes nothing.
use Rattle.std.specs.Prelude.{ℕ, zero, suc, ◌+◌, ◌*◌, ◌≤◌, ◌≡◌, refl, List, ◌∷◌, ◌++◌, length, get_or, take}
use Rattle.std.proofs.Common.{sym, ap, ap₂, ◌∙◌, subst, arith, length-take, get_or-take}
use Rattle.std.proofs.Math.Option.{Option, none, some}
use borrow.Author.Tests.{eq-eqb}
use Rattle.cells.specs.Cells.{le_at, cells_from, cells}
use Rattle.cells.proofs.Laws.{length_cells}
use Rattle.rules.specs.Declarations.{Table, total_words}
use Rattle.rules.specs.Steps.Runs.{run}
use Rattle.rules.specs.Limits.{most_words}
use Rattle.rules.specs.Faults.Whole.{main_name}
use Rattle.rules.specs.Answers.{Result, refusal, result_of, start_or61, words_from, word_lengths, long_word, run_on}
use Rattle.rules.specs.Pair.{unshared, joint}
use Rattle.buffers.specs.Laws.Buffers.{words_cells}
use Rattle.pairs.specs.Laws.Judged.{or_else61, long_joint_lem}
use Rattle.starts.specs.Starts.{Starts, Begins, Declines}
use Rattle.starts.specs.Laws.Cases.{declines_by, begins_by}
use Rattle.std.specs.Prelude.{⊤, Ok, Err}
use Rattle.rules.specs.Refusals.{refusal_at, OrRefused}
use Rattle.rules.specs.declared.refusals.Refusal.{Refusal}
use Rattle.pair_tables.specs.Lengths.{Carried, long_behind, long_joint, Fits, one_long}
use Rattle.pair_tables.specs.Laws.Joining.{joint_words}

-- cells of a front part, and those behind it
le_front : (w m o : ℕ) (b : List ℕ) → o + w ≤ m → le_at w (take m b) o ≡ le_at w b o
unfolding le_at
le_front zero m o b l = refl
le_front (suc w) m o b l =
    let first : get_or (take m b) o 0 ≡ get_or b o 0 = get_or-take m b o 0 (omega arith) in
    let rest : le_at w (take m b) (o + 1) ≡ le_at w b (o + 1) = le_front w m (o + 1) b (omega arith) in
    omega arith

cells_front : (n m o : ℕ) (b : List ℕ) → o + 8 * n ≤ m → cells_from 8 (take m b) o n ≡ cells_from 8 b o n
unfolding cells_from
cells_front zero m o b l = refl
cells_front (suc n) m o b l = ap₂ ◌∷◌ (le_front 8 m o b (omega arith)) (cells_front n m (o + 8) b (omega arith))

cells_both : (n k o t : ℕ) (b : List ℕ) → t ≡ n + k → cells_from 8 b o t ≡ cells_from 8 b o n ++ cells_from 8 b (o + 8 * n) k
unfolding cells_from
cells_both zero k o t b e =
    let same : t ≡ k = omega arith in
    let here : o + 8 * 0 ≡ o = omega arith in
    rw (same, here)
cells_both (suc n) k o zero b e = absurd (omega arith)
cells_both (suc n) k o (suc t) b e =
    let there : o + 8 + 8 * n ≡ o + 8 * suc n = omega arith in
    ap (λ (z : List ℕ). le_at 8 b o ∷ z) (cells_both n k (o + 8) t b (omega arith) ∙ ap (λ (p : ℕ). cells_from 8 b (o + 8) n ++ cells_from 8 b p k) there)

module _ (first second : Table) (b : List ℕ) where
  abbrev front : List ℕ
  front = take (8 * total_words first) b

  words_both : words_from (total_words (joint first second)) b
      ≡ words_from (total_words first) front ++ cells_from 8 b (8 * total_words first) (total_words (unshared first second))
  words_both =
      let behind : 0 + 8 * total_words first ≡ 8 * total_words first = omega arith in
      sym (words_cells (total_words (joint first second)) b)
      ∙ cells_both (total_words first) (total_words (unshared first second)) 0 (total_words (joint first second)) b (joint_words first second)
      ∙ ap₂ ◌++◌
      (sym (cells_front (total_words first) (8 * total_words first) 0 b (omega arith)) ∙ words_cells (total_words first) front)
      (ap (λ (p : ℕ). cells_from 8 b p (total_words (unshared first second))) behind)

  long_both : long_joint first second b ≡ or_else61 (long_word 0 (word_lengths first) (words_from (total_words first) front)) (long_behind first second b)
  long_both =
      ap (long_word 0 (word_lengths (joint first second))) words_both
      ∙ long_joint_lem first second (words_from (total_words first) front) (cells_from 8 b (8 * total_words first) (total_words (unshared first second)))
      (ap length (sym (words_cells (total_words first) front)) ∙ length_cells 8 front 0 (total_words first))

-- 61 as a run has it
module _ (ds : Table) (b : List ℕ) (long : length b ≡ 8 * total_words ds) where
  abbrev long_of : Option ℕ
  long_of = long_word 0 (word_lengths ds) (words_from (total_words ds) b)

  abbrev result : Result
  result = result_of (run ds (main_name ds) 0 (words_from (total_words ds) b))

  started : run_on ds b 0 ≡ start_or61 long_of result
  unfolding run_on
  started = rw (run_on, eq-eqb (length b) (8 * total_words ds) long)

  begins_fit : Begins ds b → long_of ≡ none
  begins_fit h = by long_of (sym started ∙ h.runs 0)
    where
      by : (o : Option ℕ) → start_or61 o result ≡ result → o ≡ none
      by none e = refl
      by (some o) e = let z : ◌≡◌ {A = ℕ} 0 1 = cc in absurd (omega arith)

  declines_long : {m p : ℕ} → Declines ds b m p → (m ≡ 61) × (long_of ≡ some p)
  declines_long {m} {p} h = by long_of (sym started ∙ h.refuses 0)
    where
      by : (o : Option ℕ) → start_or61 o result ≡ refusal m p → (m ≡ 61) × (o ≡ some p)
      by none e = let z : ◌≡◌ {A = ℕ} 0 1 = cc in absurd (omega arith)
      by (some o) e = (cc, cc)

-- by what was found of the front, then behind it
module _ {first second : Table} {firsts : List ℕ} {words : ℕ} {b : List ℕ} (c : Carried first second firsts words b) where
  front_long : length (take (8 * total_words first) b) ≡ 8 * total_words first
  front_long = length-take (8 * total_words first) b ∙ omega (arith, c.long, joint_words first second)

  front_declined : {q : Refusal} → Declines first (take (8 * total_words first) b) q.number q.place → Fits (long_joint first second b) (Err q)
  front_declined {q} h =
      let d = declines_long first (take (8 * total_words first) b) front_long h in
      subst (λ (n : ℕ). Fits (long_joint first second b) (Err (refusal_at n q.place))) (sym d.0)
      (one_long (long_both first second b ∙ ap (λ (o : Option ℕ). or_else61 o (long_behind first second b)) d.1) h.near)

  front_begun : {r : OrRefused ⊤} → Begins first (take (8 * total_words first) b) → Fits (long_behind first second b) r → Fits (long_joint first second b) r
  front_begun {r} h f =
      let e = long_both first second b
      ∙ ap (λ (o : Option ℕ). or_else61 o (long_behind first second b)) (begins_fit first (take (8 * total_words first) b) front_long h) in
      subst (λ (o : Option ℕ). Fits o r) (sym e) f

  pub front_room : (8 * words ≤ length b) × (words ≤ most_words)
  front_room = (omega (arith, c.front, c.long, joint_words first second), omega (arith, c.front, c.few, joint_words first second))

  module _ {s : OrRefused ⊤} (h : Starts first (take (8 * words) b) s) where
    of_front : Starts first (take (8 * total_words first) b) s
    of_front = subst (λ (n : ℕ). Starts first (take (8 * n) b) s) c.front h

    pub joint_declined : {q : Refusal} → s ≡ Err q → Fits (long_joint first second b) (Err q)
    joint_declined e = front_declined (declines_by of_front e)

    pub joint_begun : {r : OrRefused ⊤} → s ≡ Ok tt → Fits (long_behind first second b) r → Fits (long_joint first second b) r
    joint_begun e f = front_begun (begins_by of_front e) f
