-- Laws of one turn: the first description runs on the front of the table, the second on its words.
-- Assumes nothing.
use Rattle.std.specs.Prelude.{ℕ, zero, suc, ◌+◌, ◌-◌, ◌*◌, ◌/◌, ◌≤◌, ◌≡◌, refl, List, ◌∷◌, ◌++◌, length, get_or, take, drop}
use Rattle.std.proofs.Common.{sym, ap, ap₂, ◌∙◌, subst, arith, take-append-drop, drop-drop, length-take-le, drop_at}
use Rattle.std.proofs.Math.ListN.{get_or-append}
use Rattle.cells.specs.Cells.{le_at, cells, cells_from}
use Rattle.cells.proofs.Laws.{length_cells}
use Rattle.buffers.specs.Laws.Buffers.{number_at}
use Rattle.rules.specs.Declarations.{Table, total_words}
use Rattle.rules.specs.Answers.{little_endian}
use Rattle.rules.specs.Steps.Runs.{Run, run_with, run}
use Rattle.rules.specs.Faults.Whole.{main_name}
use Rattle.rules.specs.Pair.{first_side, side_of, seen, put_back, own_run, turn_run}
use Rattle.rules.specs.Turns.{besides}
use Rattle.pairs.specs.Laws.Rows.{first_turn}
use Rattle.runner.specs.Runs.{RunAt, RunAnswer, ending_of, steps_of}
use Rattle.runner.specs.declared.runs.Ended.{Ended}
use Rattle.pair_turns.specs.Words.{table_words, Sees}
use Rattle.pair_turns.specs.Turns.{Runnable, FrontRun, seeing, Turned, Sides}

-- cells of bytes with others behind them
number_front : (n : ℕ) (x y : List ℕ) (o : ℕ) → o + n ≤ length x → le_at n (x ++ y) o ≡ le_at n x o
unfolding le_at
number_front zero x y o l = refl
number_front (suc n) x y o l =
    let first : get_or (x ++ y) o 0 ≡ get_or x o 0 = get_or-append x y 0 o (omega arith) in
    let rest : le_at n (x ++ y) (o + 1) ≡ le_at n x (o + 1) = number_front n x y (o + 1) (omega arith) in
    omega arith

cells_front : (n : ℕ) (x y : List ℕ) (o : ℕ) → o + 8 * n ≤ length x → cells_from 8 (x ++ y) o n ≡ cells_from 8 x o n
unfolding cells_from
cells_front zero x y o l = refl
cells_front (suc n) x y o l = ap₂ ◌∷◌ (number_front 8 x y o (omega arith)) (cells_front n x y (o + 8) (omega arith))

-- cells of the same bytes from o on
cells_behind : (n : ℕ) (b d : List ℕ) (o : ℕ) → drop o b ≡ drop o d → cells_from 8 b o n ≡ cells_from 8 d o n
unfolding cells_from
cells_behind zero b d o e = refl
cells_behind (suc n) b d o e =
    ap₂ ◌∷◌ (number_at 8 b o ∙ ap (little_endian 8) e ∙ sym (number_at 8 d o))
    (cells_behind n b d (o + 8) (sym (drop-drop 8 o b) ∙ ap (drop 8) e ∙ drop-drop 8 o d))

-- the first m cells, and n behind them
cells_split : (m n k : ℕ) (b : List ℕ) (o : ℕ) → k ≡ m + n → cells_from 8 b o k ≡ cells_from 8 b o m ++ cells_from 8 b (o + 8 * m) n
unfolding cells_from
cells_split zero n k b o e =
    let here : o ≡ o + 8 * 0 = omega arith in
    let count : k ≡ n = omega arith in
    ap₂ (cells_from 8 b) here count
cells_split (suc m) n zero b o e = absurd (omega arith)
cells_split (suc m) n (suc k) b o e =
    let there : o + 8 + 8 * m ≡ o + 8 * suc m = omega arith in
    ap (λ z. le_at 8 b o ∷ z) (cells_split m n k b (o + 8) (omega arith) ∙ ap (λ (z : ℕ). cells_from 8 b (o + 8) m ++ cells_from 8 b z n) there)

table_split : (w : ℕ) (b : List ℕ) → 8 * w ≤ length b → table_words b ≡ cells 8 w b ++ cells_from 8 b (8 * w) (length b / 8 - w)
table_split w b l =
    let e : 0 + 8 * w ≡ 8 * w = omega arith in
    cells_split w (length b / 8 - w) (length b / 8) b 0 (omega arith) ∙ ap (λ (z : ℕ). cells 8 w b ++ cells_from 8 b z (length b / 8 - w)) e

module _ {records values decls : List ℕ} {begin w : ℕ} {ds : Table} (v : Runnable records values decls begin ds) (count : w ≡ total_words ds) where
  -- with carriers of as many words
  abbrev pub run_at : (b : List ℕ) → length b ≡ 8 * w → RunAt records values decls b begin
  run_at b long = record {
    text = v.text;
    tokens = v.tokens;
    outer = v.outer;
    table = ds;
    code = v.code;
    promise = v.promise;
    main = main_name ds;
    body = v.body;
    declared = v.declared;
    begins = v.begins;
    words = long ∙ ap (λ (z : ℕ). 8 * z) count;
  }

  pub taken_long : (b : List ℕ) → 8 * w ≤ length b → length (take (8 * w) b) ≡ 8 * w
  taken_long b l = length-take-le (8 * w) b l

  -- a run on the front of bytes
  pub front_ran : {b x : List ℕ} {budget : ℕ} {r : Ended} (l : 8 * w ≤ length b) → length x ≡ length (take (8 * w) b)
      → RunAnswer (run_at (take (8 * w) b) (taken_long b l)) budget x r → FrontRun ds w budget b (x ++ drop (8 * w) b) r
  front_ran {b} {x} {budget} {r} l long told =
      let own : length x ≡ 8 * w = long ∙ taken_long b l in
      let start : cells 8 w b ≡ cells 8 (total_words ds) (take (8 * w) b) =
      ap (cells 8 w) (sym (take-append-drop (8 * w) b)) ∙ cells_front w (take (8 * w) b) (drop (8 * w) b) 0 (omega (arith, taken_long b l))
      ∙ ap (λ z. cells 8 z (take (8 * w) b)) count in
      let end : cells 8 w (x ++ drop (8 * w) b) ≡ cells 8 (total_words ds) x = cells_front w x (drop (8 * w) b) 0 (omega arith) ∙ ap (λ z. cells 8 z x) count in
      record {
        same = ap (run ds (main_name ds) budget) start ∙ told.same ∙ ap (run_with (ending_of r) (steps_of r)) (sym end);
        behind = drop_at x (drop (8 * w) b) (8 * w) own;
      }

  -- is a turn of the first side
  pub first_turned : {before after : List ℕ} {budget : ℕ} {r : Ended} → FrontRun ds w budget before after r → 8 * w ≤ length before
      → length after ≡ length before
      → Turned (first_side ds) budget before after r
  first_turned {before} {after} {budget} {r} f l long =
      let k = length before / 8 - w in
      let others = cells_from 8 before (8 * w) k in
      let end : table_words after ≡ cells 8 w after ++ others =
      table_split w after (omega arith) ∙ ap₂ (λ x (y : ℕ). cells 8 w after ++ cells_from 8 x (8 * w) (y / 8 - w)) refl long
      ∙ ap (λ z. cells 8 w after ++ z) (cells_behind k after before (8 * w) f.behind) in
      record {
        same =
            ap (turn_run (first_side ds) budget) (table_split w before l)
            ∙ first_turn ds budget (cells 8 w before) others (length_cells 8 before 0 w ∙ count)
            ∙ ap (besides others) f.same
            ∙ ap (run_with (ending_of r) (steps_of r)) (sym end);
      }

-- the second side's
pub second_turned : (view : List ℕ) {before middle own after : List ℕ} {w budget : ℕ} {ds : Table} {r : Ended}
    → cells 8 w middle ≡ seen (cells 2 w view) (table_words before) → FrontRun ds w budget middle own r
    → table_words after ≡ put_back (cells 2 w view) (cells 8 w own) (table_words before) → Turned (seeing ds w view) budget before after r
unfolding turn_run own_run
second_turned view {before} {w = w} {budget} {ds} {r} out f back =
    record {
      same =
          ap (λ (q : Run). run_with q.ending q.steps (put_back (cells 2 w view) q.carriers (table_words before)))
          (ap (run ds (main_name ds) budget) (sym out) ∙ f.same)
          ∙ ap (run_with (ending_of r) (steps_of r)) (sym back);
    }

-- a turn of the side that was asked for
module _ {records₀ values₀ decls₀ records₁ values₁ decls₁ view before after : List ℕ} {begin₀ w₀ begin₁ w₁ size side budget : ℕ} {r : Ended}
    (v : Sides records₀ values₀ decls₀ begin₀ w₀ records₁ values₁ decls₁ begin₁ w₁ view size) where
  pub of_first : side ≡ 0 → Turned (first_side v.first) budget before after r → Turned (side_of v.first v.second side) budget before after r
  of_first is t = subst (λ (k : ℕ). Turned (side_of v.first v.second k) budget before after r) (sym is) t

  pub of_second : (side ≡ 0 → ⊥) → Turned (seeing v.second w₁ view) budget before after r → Turned (side_of v.first v.second side) budget before after r
  of_second other t = by side other
    where
      by : (k : ℕ) → (k ≡ 0 → ⊥) → Turned (side_of v.first v.second k) budget before after r
      by zero n = absurd (n refl)
      by (suc k) n = subst (λ (x : List ℕ). Turned (record { declared = v.second; view = x }) budget before after r) v.views t

module _ {records₀ values₀ decls₀ records₁ values₁ decls₁ view : List ℕ} {begin₀ w₀ begin₁ w₁ size : ℕ}
    (v : Sides records₀ values₀ decls₀ begin₀ w₀ records₁ values₁ decls₁ begin₁ w₁ view size) where
  -- over another table of as many bytes
  abbrev pub resized : {other : ℕ} → other ≡ size → Sides records₀ values₀ decls₀ begin₀ w₀ records₁ values₁ decls₁ begin₁ w₁ view other
  resized {other} e = record {
    first = v.first;
    second = v.second;
    runs₀ = v.runs₀;
    runs₁ = v.runs₁;
    count₀ = v.count₀;
    count₁ = v.count₁;
    front = omega (arith, v.front, e);
    sees = subst (Sees view w₁) (sym e) v.sees;
    views = v.views;
  }
