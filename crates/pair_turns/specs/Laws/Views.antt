-- Laws of the view, declaration by declaration.
-- Assumes nothing.
use Rattle.std.specs.Prelude.{ℕ, suc, ◌+◌, ◌-◌, ◌*◌, ◌<◌, ◌≤◌, ◌≡◌, refl, length, get_or}
use Rattle.std.proofs.Math.Path.{sym, ap}
use Rattle.std.proofs.Common.{ap₂, ◌∙◌, subst, add-one, length-append, drop-cons, ext_get_or, get_or-append-add}
use mathlib.Core.List.{List, [], ◌∷◌, ◌++◌, append_assoc, append-nil}
use native.Mathlib.Omega.{arith}
use Rattle.std.proofs.Math.Decide.{dec_lt}
use Rattle.std.proofs.Math.ListN.{drop, drop_of_length-le, get_or-append}
use Rattle.cells.specs.Cells.{cell, cells, cells_from, put_cell}
use Rattle.cells.proofs.Laws.{length_cells, cells_get, put_same, put_here}
use Rattle.rules.specs.Limits.{most_words}
use Rattle.rules.specs.Grammar.Trees.{Tokens, Description}
use Rattle.rules.specs.Declarations.{declared_of, words_of, Table, declarations, outer_name, total_words, Declared}
use Rattle.rules.specs.Pair.{up_from, words_at}
use Rattle.pairs.specs.Laws.Views.{up_length, up_at}
use Rattle.table.specs.Views.{View}
use Rattle.table.specs.Ready.{Ready}
use Rattle.table.specs.Laws.Kth.{table_length, kth_view, kth_next}
use Rattle.declare.specs.Laws.Lawful.{lawful_words}
use Rattle.pair_turns.specs.Views.{CountedUp, Filled}

-- one cell more
pub counted_none : (view : List ℕ) (at first : ℕ) → CountedUp view view at 0 first
counted_none view at first = record { before = λ i l. refl; here = λ j l. absurd (omega arith) }

pub counted_more : {old mid new : List ℕ} {at n first : ℕ} → CountedUp old mid at n first → new ≡ put_cell 2 mid (at + n) (first + n)
    → 2 * (at + n + 1) ≤ length mid → first + n < 65536 → CountedUp old new at (n + 1) first
counted_more {old} {mid} {new} {at} {n} {first} c put room fits =
    record { before = λ i l. put_same 2 mid new (at + n) (first + n) put i (λ e. omega arith) ∙ c.before i l; here = λ j l. by j (dec_lt j n) l }
  where
    by : (j : ℕ) → Dec (j < n) → j < n + 1 → cell 2 new (at + j) ≡ first + j
    by j (yes l) h = put_same 2 mid new (at + n) (first + n) put (at + j) (λ e. omega arith) ∙ c.here j l
    by j (no l) h =
        let e : n ≡ j = omega arith in
        ap (λ (z : ℕ). cell 2 new (at + z)) (sym e) ∙ put_here 2 mid new (at + n) (first + n) put (omega arith) (omega arith) ∙ ap (λ (z : ℕ). first + z) e

pub counted_all : {old new : List ℕ} {at n i first : ℕ} → CountedUp old new at i first → n ≤ i → CountedUp old new at n first
counted_all c l = record { before = c.before; here = λ j h. c.here j (omega arith) }

-- the cells of one declaration behind those before them
pub counted_cells : {old new : List ℕ} {at n first : ℕ} → CountedUp old new at n first → cells 2 (at + n) new ≡ cells 2 at old ++ up_from n first
counted_cells {old} {new} {at} {n} {first} c =
    ext_get_or 0 (cells 2 (at + n) new) (cells 2 at old ++ up_from n first) (length_cells 2 new 0 (at + n) ∙ sym long)
    (λ i l. by i (dec_lt i at) (rw length_cells at l))
  where
    front : length (cells 2 at old) ≡ at
    front = length_cells 2 old 0 at

    long : length (cells 2 at old ++ up_from n first) ≡ at + n
    long = length-append (cells 2 at old) (up_from n first) ∙ ap₂ (λ a b. a + b) front (up_length n first)

    by : (i : ℕ) → Dec (i < at) → i < at + n → get_or (cells 2 (at + n) new) i 0 ≡ get_or (cells 2 at old ++ up_from n first) i 0
    by i (yes l) h =
        cells_get 2 (at + n) new i h ∙ c.before i l ∙ sym (cells_get 2 at old i l)
        ∙ sym (get_or-append (cells 2 at old) (up_from n first) 0 i (omega (arith, front)))
    by i (no l) h =
        let j : ℕ = i - at in
        let e : i ≡ at + j = omega arith in
        let there : at + j ≡ length (cells 2 at old) + j = omega (arith, front) in
        cells_get 2 (at + n) new i h ∙ ap (cell 2 new) e ∙ c.here j (omega arith) ∙ sym (up_at n first j (omega arith))
        ∙ sym (get_or-append-add (cells 2 at old) (up_from n first) j 0) ∙ ap (λ (z : ℕ). get_or (cells 2 at old ++ up_from n first) z 0) (sym (e ∙ there))

-- The words of the first k declarations have the first `at` cells.
pub record Passed (ds : Table) (fs view : List ℕ) (at k : ℕ) : Type 0 where
  pub words : at + total_words (drop k ds) ≡ total_words ds
  pub is : cells 2 at view ++ words_at (drop k ds) (drop k fs) ≡ words_at ds fs

passed_none : (ds : Table) (fs view : List ℕ) → Passed ds fs view 0 0
unfolding cells_from
passed_none ds fs view = record { words = omega arith; is = refl }

passed_more : {ds : Table} {fs old new : List ℕ} {at k n : ℕ} {d : Declared} → Passed ds fs old at k → drop k ds ≡ d ∷ drop (suc k) ds → n ≡ words_of d
    → k < length fs → CountedUp old new at n (get_or fs k 0) → Passed ds fs new (at + n) (k + 1)
unfolding total_words words_at
passed_more {ds} {fs} {old} {new} {at} {k} {n} {d} p next adds l c =
    rw add-one (record {
      words = omega (arith, p.words, ap total_words next, adds);
      is =
          ap (λ z. z ++ words_at (drop (suc k) ds) (drop (suc k) fs)) (counted_cells c ∙ ap (λ (z : ℕ). cells 2 at old ++ up_from z (get_or fs k 0)) adds)
          ∙ append_assoc (cells 2 at old) (up_from (words_of d) (get_or fs k 0)) (words_at (drop (suc k) ds) (drop (suc k) fs))
          ∙ sym (ap (λ z. cells 2 at old ++ z) (ap₂ words_at next (drop-cons fs k 0 l)))
          ∙ p.is;
    })

-- the turns of the loop, whatever description is ready
pub record Filling (records values decls : List ℕ) (m : ℕ) (firsts view : List ℕ) (at k : ℕ) : Type 0 where
  pub within : k ≤ m
  pub room : at ≤ most_words
  pub passed : (text : List ℕ) (ts : Tokens) (d : Description) → Ready text records values decls ts d m → Passed (declarations d) (cells 2 m firsts) view at k

pub none_filled : {records values decls firsts view : List ℕ} {m : ℕ} → Filling records values decls m firsts view 0 0
none_filled {firsts = firsts} {view} {m} =
    record { within = omega arith; room = omega arith; passed = λ text ts d r. passed_none (declarations d) (cells 2 m firsts) view }

module _ {records values decls firsts view : List ℕ} {m at k : ℕ} (f : Filling records values decls m firsts view at k) where
  pub all_filled : m ≤ k → (text : List ℕ) (ts : Tokens) (d : Description) → Ready text records values decls ts d m → Filled (declarations d) firsts m view at
  unfolding total_words words_at
  all_filled l text ts d r =
      let past : drop k (declarations d) ≡ [] = drop_of_length-le (declarations d) {i = k} (omega (arith, table_length r)) in
      let p = f.passed text ts d r in
      record {
        count = omega (arith, p.words, ap total_words past);
        is = sym (append-nil (cells 2 at view)) ∙ sym (ap (λ z. cells 2 at view ++ words_at z (drop k (cells 2 m firsts))) past) ∙ p.is;
      }

  module _ {p n : ℕ} (l : k < m) (e : p ≡ cell 2 decls k) (adds : (v : View records values p) → n ≡ words_of (declared_of v.declaration)) where
    words_room : (text : List ℕ) (ts : Tokens) (d : Description) → Ready text records values decls ts d m → at + n ≤ most_words
    unfolding total_words
    words_room text ts d r =
        omega (
          arith,
          (f.passed text ts d r).words,
          ap total_words (kth_next r l),
          adds (kth_view r l e),
          lawful_words (outer_name d).word (declarations d)
              r.lawful,
        )

    pub to_count : (text : List ℕ) × (ts : Tokens) × (d : Description) × Ready text records values decls ts d m → at + n ≤ most_words
    to_count (text, ts, d, r) = words_room text ts d r

    pub filled_more : {new : List ℕ} {first : ℕ} → (text : List ℕ) × (ts : Tokens) × (d : Description) × Ready text records values decls ts d m
        → first ≡ cell 2 firsts k → CountedUp view new at n first → Filling records values decls m firsts new (at + n) (k + 1)
    filled_more {new} {first} (text, ts, d, r) q c =
        record {
          within = omega arith;
          room = words_room text ts d r;
          passed = λ text ts d r.
              passed_more (f.passed text ts d r) (kth_next r l) (adds (kth_view r l e)) (omega (arith, length_cells 2 firsts 0 m))
              (subst (CountedUp view new at n) (q ∙ sym (cells_get 2 m firsts k l)) c);
        }
