-- Laws of `words`: what is counted and what is left make the total.
-- Assumes nothing.
use Prim.Native.Nat.{ℕ, ◌+◌, ◌<◌, ◌≤◌}
use mathlib.Core.Path.{◌≡◌, ap}
use mathlib.Core.List.{List}
use native.Mathlib.Omega.{arith}
use native.Mathlib.Numerals.{add-one}
use lib.ListN.{length, drop, drop_of_length-le}
use Rattle.cells.specs.Cells.{cell}
use Rattle.rules.specs.Grammar.Trees.{Tokens, Description}
use Rattle.rules.specs.Declarations.{declared_of, outer_name, declarations, words_of, total_words}
use Rattle.rules.specs.Limits.{most_words}
use Rattle.table.specs.Views.{View}
use Rattle.table.specs.Ready.{Ready}
use Rattle.table.specs.Laws.Kth.{table_length, kth_next, kth_view}
use Rattle.declare.specs.Laws.Lawful.{lawful_words}

pub record Summed (records values decls : List ℕ) (m total k : ℕ) : Type 0 where
  pub within : k ≤ m
  pub room : total ≤ most_words
  pub left : (text : List ℕ) (ts : Tokens) (d : Description) → Ready text records values decls ts d m
      → total + total_words (drop k (declarations d)) ≡ total_words (declarations d)

pub nothing_summed : {records values decls : List ℕ} {m : ℕ} → Summed records values decls m 0 0
nothing_summed = record { within = omega arith; room = omega arith; left = λ text ts d r. omega arith }

module _ {text records values decls : List ℕ} {ts : Tokens} {d : Description} {m k p : ℕ} (r : Ready text records values decls ts d m) (l : k < m)
    (e : p ≡ cell 2 decls k) where
  adds_up : (total : ℕ) {w : ℕ} → total + total_words (drop k (declarations d)) ≡ total_words (declarations d)
      → ((v : View records values p) → w ≡ words_of (declared_of v.declaration))
      → total + w + total_words (drop (k + 1) (declarations d)) ≡ total_words (declarations d)
  unfolding total_words
  adds_up total sum adds = rw add-one (omega (arith, ap total_words (kth_next r l), adds (kth_view r l e), sum))

pub summed_more : {records values decls : List ℕ} {m total k p w : ℕ} → Summed records values decls m total k → k < m → p ≡ cell 2 decls k
    → ((v : View records values p) → w ≡ words_of (declared_of v.declaration))
    → (text : List ℕ) × (ts : Tokens) × (d : Description) × Ready text records values decls ts d m → Summed records values decls m (total + w) (k + 1)
summed_more {total = total} s l e adds (text, ts, d, r) = record {
  within = omega arith;
  room = omega (arith, adds_up r l e total (s.left text ts d r) adds, lawful_words (outer_name d).word (declarations d) r.lawful);
  left = λ text ts d r. adds_up r l e total (s.left text ts d r) adds;
}

pub all_summed : {records values decls : List ℕ} {m total k : ℕ} → Summed records values decls m total k → m ≤ k
    → ((text : List ℕ) (ts : Tokens) (d : Description) → Ready text records values decls ts d m → total ≡ total_words (declarations d)) × (total ≤ most_words)
unfolding total_words
all_summed {k = k} s l = (
  λ text ts d r.
      let long : length (declarations d) ≤ k = omega (arith, table_length r) in
      omega (arith, s.left text ts d r, ap total_words (drop_of_length-le (declarations d) long)),
  s.room,
)
