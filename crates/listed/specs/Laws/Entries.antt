-- Entries in bytes, one by one.
-- Assumes nothing.
use Rattle.std.specs.Prelude.{ℕ, zero, suc, ◌+◌, ◌*◌, ◌/◌, ◌%◌, ◌<◌, ◌≤◌, ◌≡◌, Bool, true, false, ◌&&◌, List, eqb, leb, length, get_or, drop}
use Rattle.std.proofs.Math.Path.{refl}
use Rattle.std.proofs.Common.{sym, ◌∙◌, ap, arith, drop-drop}
use borrow.Author.Tests.{eq-eqb, ne_eqb, leb-true}
use Rattle.cells.specs.Cells.{le_at, cell}
use Rattle.buffers.specs.Laws.Buffers.{number_at}
use Rattle.rules.specs.Answers.{little_endian}
use Rattle.rules.specs.Stores.{Entry, entry}
use Rattle.traces.specs.Cited.Entries.{same_entry}
use Rattle.rules.specs.Entries.{entry_size, most_entries, entry_from, entries_from, entries_in, is_list}

pub length_entries : (n : ℕ) (b : List ℕ) → length (entries_from n b) ≡ n
unfolding entries_from
length_entries zero b = refl
length_entries (suc n) b = ap suc (length_entries n (drop entry_size b))

entry_from_lem : (n : ℕ) (b : List ℕ) (i : ℕ) → i < n → get_or (entries_from n b) i (entry 0 0 0) ≡ entry_from (drop (entry_size * i) b)
unfolding entries_from
entry_from_lem zero b i h = absurd (omega arith)
entry_from_lem (suc n) b zero h = refl
entry_from_lem (suc n) b (suc i) h =
    let e : entry_size + entry_size * i ≡ entry_size * suc i = omega arith in
    entry_from_lem n (drop entry_size b) i (omega arith) ∙ ap entry_from (drop-drop (entry_size * i) entry_size b ∙ ap (λ k. drop k b) e)

-- a number further on
further : (w : ℕ) (b : List ℕ) (o k p : ℕ) → o + k ≡ p → little_endian w (drop k (drop o b)) ≡ le_at w b p
further w b o k p e = ap (little_endian w) (drop-drop k o b ∙ ap (λ n. drop n b) e) ∙ sym (number_at w b p)

-- The entry i is read from its cells.
pub entry_read : (n : ℕ) (b : List ℕ) (i p w v : ℕ) → i < n → p ≡ cell 4 b (4 * i) → w ≡ cell 4 b (4 * i + 1) → v ≡ cell 8 b (2 * i + 1)
    → entry p w v ≡ get_or (entries_from n b) i (entry 0 0 0)
unfolding entry_from
entry_read n b i p w v h is_p is_w is_v =
    let first : little_endian 4 (drop (entry_size * i) b) ≡ p = further 4 b (entry_size * i) 0 (4 * (4 * i)) (omega arith) ∙ sym is_p in
    let second : little_endian 4 (drop 4 (drop (entry_size * i) b)) ≡ w = further 4 b (entry_size * i) 4 (4 * (4 * i + 1)) (omega arith) ∙ sym is_w in
    let third : little_endian 8 (drop 8 (drop (entry_size * i) b)) ≡ v = further 8 b (entry_size * i) 8 (8 * (2 * i + 1)) (omega arith) ∙ sym is_v in
    sym (entry_from_lem n b i h ∙ rw (first, second, third))

pub entry_within : (b : List ℕ) (i : ℕ) → i < length (entries_in b) → 16 * i + 16 ≤ length b
entry_within b i h = omega (arith, length_entries (length b / entry_size) b)

-- a number of 32 bits is two of 16
pub two_halves : (b : List ℕ) (i : ℕ) → cell 2 b (2 * i) + 65536 * cell 2 b (2 * i + 1) ≡ cell 4 b i
unfolding le_at
two_halves b i =
    let e : 2 * (2 * i) ≡ 4 * i = omega arith in
    let f : 2 * (2 * i + 1) ≡ 4 * i + 1 + 1 = omega arith in
    rw (e, f) (omega arith)

-- 110, test by test, and what it leaves
pub not_whole : (b : List ℕ) → (length b % entry_size ≡ 0 → ⊥) → false ≡ is_list b
unfolding is_list
not_whole b h = rw (ne_eqb (length b % entry_size) 0 h) refl

pub count_decides : (b : List ℕ) → length b % entry_size ≡ 0 → leb (length b / entry_size) most_entries ≡ is_list b
unfolding is_list
count_decides b e = rw (eq-eqb (length b % entry_size) 0 e) refl

pub list_few : (b : List ℕ) → is_list b ≡ true → length (entries_in b) ≤ most_entries
unfolding is_list
list_few b e = omega (arith, length_entries (length b / entry_size) b, leb-true (length b / entry_size) most_entries (and_right (eqb (length b % entry_size) 0) (leb (length b / entry_size) most_entries) e))
  where
    and_right : (x y : Bool) → (x && y) ≡ true → y ≡ true
    and_right true y e = e
    and_right false y e = let z : ◌≡◌ {A = ℕ} 0 1 = cc in absurd (omega arith)

-- two entries that differ, and what is left to compare
module _ (x y : Entry) where
  pub other_place : (x.place ≡ y.place → ⊥) → false ≡ same_entry x y
  unfolding same_entry
  other_place h = rw (ne_eqb x.place y.place h) refl

  pub other_word : x.place ≡ y.place → (x.word ≡ y.word → ⊥) → false ≡ same_entry x y
  unfolding same_entry
  other_word e h = rw (eq-eqb x.place y.place e, ne_eqb x.word y.word h) refl

  pub value_decides : x.place ≡ y.place → x.word ≡ y.word → eqb x.value y.value ≡ same_entry x y
  unfolding same_entry
  value_decides e f = rw (eq-eqb x.place y.place e, eq-eqb x.word y.word f) refl
