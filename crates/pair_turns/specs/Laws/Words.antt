-- Laws of taking words out of a table in bytes and putting them back.
-- Assumes nothing.
use Rattle.std.specs.Prelude.{ℕ, zero, suc, ◌+◌, ◌*◌, ◌/◌, ◌^◌, ◌<◌, ◌≤◌, ◌≡◌, refl, List, [], ◌∷◌, map, length, get_or, set, drop}
use Rattle.std.proofs.Common.{sym, ap, ap₂, ◌∙◌, arith, add-one, drop_of_length-le, drop-cons, ext_get_or}
use Rattle.std.proofs.Math.Decide.{dec_lt}
use Rattle.cells.specs.Cells.{cell, cells, put_cell}
use Rattle.cells.proofs.Laws.{length_cells, cells_get, cells_put, put_same, put_here, put_size}
use Rattle.rules.specs.Pair.{seen, put_back}
use Rattle.pairs.specs.Laws.Views.{seen_length}
use Rattle.pair_turns.specs.Words.{table_words, Sees}

-- the first i of them are taken out
pub record Out (view carriers own : List ℕ) (i : ℕ) : Type 0 where
  pub each : (j : ℕ) → j < i → cell 8 own j ≡ cell 8 carriers (cell 2 view j)

pub none_out : {view carriers own : List ℕ} → Out view carriers own 0
none_out = record { each = λ j l. absurd (omega arith) }

pub out_more : {view carriers old new : List ℕ} {i f v : ℕ} → Out view carriers old i → f ≡ cell 2 view i → v ≡ cell 8 carriers f → v < 2 ^ 64
    → new ≡ put_cell 8 old i v → 8 * i + 8 ≤ length old → Out view carriers new (i + 1)
out_more {view} {carriers} {old} {new} {i} {f} {v} o is value small put room = record { each = λ j l. by j (dec_lt j i) l }
  where
    by : (j : ℕ) → Dec (j < i) → j < i + 1 → cell 8 new j ≡ cell 8 carriers (cell 2 view j)
    by j (yes l) h = put_same 8 old new i v put j (λ e. omega arith) ∙ o.each j l
    by j (no l) h =
        let e : i ≡ j = omega arith in
        ap (cell 8 new) (sym e) ∙ put_here 8 old new i v put room (omega arith) ∙ value ∙ ap (cell 8 carriers) (is ∙ ap (cell 2 view) e)

map_at : (xs : List ℕ) (f : ℕ → ℕ) (i : ℕ) → i < length xs → get_or (map f xs) i 0 ≡ f (get_or xs i 0)
map_at [] f i l = absurd (omega arith)
map_at (x ∷ xs) f zero l = refl
map_at (x ∷ xs) f (suc i) l = map_at xs f i (omega arith)

pub all_out : {view carriers own : List ℕ} {n i : ℕ} → Sees view n (length carriers) → Out view carriers own i → n ≤ i
    → cells 8 n own ≡ seen (cells 2 n view) (table_words carriers)
unfolding seen
all_out {view} {carriers} {own} {n} sees o past =
    ext_get_or 0 (cells 8 n own) (seen (cells 2 n view) (table_words carriers))
    (length_cells 8 own 0 n ∙ sym (seen_length (cells 2 n view) (table_words carriers) ∙ length_cells 2 view 0 n)) (λ i l. by i (rw length_cells at l))
  where
    by : (i : ℕ) → i < n → get_or (cells 8 n own) i 0 ≡ get_or (map (λ k. get_or (table_words carriers) k 0) (cells 2 n view)) i 0
    by i l =
        cells_get 8 n own i l ∙ o.each i (omega arith) ∙ sym (cells_get 8 (length carriers / 8) carriers (cell 2 view i) (sees.below i l))
        ∙ ap (λ k. get_or (table_words carriers) k 0) (sym (cells_get 2 n view i l))
        ∙ sym (map_at (cells 2 n view) (λ k. get_or (table_words carriers) k 0) i (omega (arith, length_cells 2 view 0 n)))

-- the first i of them are back: what is left to do comes to the same
pub record Back (view : List ℕ) (n : ℕ) (own before carriers : List ℕ) (i : ℕ) : Type 0 where
  pub within : i ≤ n
  pub long : length carriers ≡ length before
  pub same : put_back (drop i (cells 2 n view)) (drop i (cells 8 n own)) (table_words carriers) ≡ put_back (cells 2 n view) (cells 8 n own) (table_words before)

pub none_back : {view own carriers : List ℕ} {n : ℕ} → Back view n own carriers carriers 0
none_back = record { within = omega arith; long = refl; same = refl }

pub back_more : {view own before old new : List ℕ} {n i f v : ℕ} → Back view n own before old i → i < n → Sees view n (length before) → f ≡ cell 2 view i
    → v ≡ cell 8 own i
    → v < 2 ^ 64 → new ≡ put_cell 8 old f v → Back view n own before new (i + 1)
unfolding put_back
back_more {view} {own} {before} {old} {new} {n} {i} {f} {v} b l sees is value small put =
    let size : length new ≡ length old = put_size 8 old new f v put in
    let k = length old / 8 in
    let there : f < k = omega (arith, sees.below i l, b.long) in
    let stored : table_words new ≡ set (table_words old) f v =
    ap (λ z. cells 8 (z / 8) new) size ∙ ap (cells 8 k) put ∙ cells_put 8 k old f v there (omega arith) (omega arith) in
    let next₂ : drop i (cells 2 n view) ≡ f ∷ drop (suc i) (cells 2 n view) =
    drop-cons (cells 2 n view) i 0 (omega (arith, length_cells 2 view 0 n)) ∙ ap (λ z. z ∷ drop (suc i) (cells 2 n view)) (cells_get 2 n view i l ∙ sym is) in
    let next₈ : drop i (cells 8 n own) ≡ v ∷ drop (suc i) (cells 8 n own) =
    drop-cons (cells 8 n own) i 0 (omega (arith, length_cells 8 own 0 n)) ∙ ap (λ z. z ∷ drop (suc i) (cells 8 n own)) (cells_get 8 n own i l ∙ sym value) in
    record {
      within = omega arith;
      long = size ∙ b.long;
      same =
          rw add-one (ap (put_back (drop (suc i) (cells 2 n view)) (drop (suc i) (cells 8 n own))) stored
          ∙ sym (ap₂ (λ x y. put_back x y (table_words old)) next₂ next₈) ∙ b.same);
    }

pub all_back : {view own before carriers : List ℕ} {n i : ℕ} → Back view n own before carriers i → n ≤ i
    → table_words carriers ≡ put_back (cells 2 n view) (cells 8 n own) (table_words before)
unfolding put_back
all_back {view} {own} {before} {carriers} {n} {i} b l =
    let past : drop i (cells 2 n view) ≡ [] = drop_of_length-le (cells 2 n view) {i = i} (omega (arith, length_cells 2 view 0 n)) in
    sym (ap (λ z. put_back z (drop i (cells 8 n own)) (table_words carriers)) past) ∙ b.same
