-- Laws of access cells: their parts by their bytes, and words by their names.
-- Assumes nothing.
use Rattle.std.specs.Prelude.{ℕ, ◌+◌, ◌-◌, ◌*◌, ◌^◌, ◌<◌, ◌≤◌, min, max, ◌≡◌, Bool, true, false, List, leb, get_or}
use Rattle.std.proofs.Math.Path.{refl, ap}
use Rattle.std.proofs.Common.{sym, ◌∙◌, le-leb}
use Rattle.std.proofs.Math.Option.{Option, none, some}
use native.Mathlib.Omega.{arith}
use Rattle.std.proofs.Math.ListN.{get_elem?}
use Rattle.std.proofs.Math.Nat.{add_assoc}
use Rattle.cells.specs.Cells as bytes
use Rattle.cells.specs.Cells.{le_at}
use Rattle.records.specs.Holds.{value_cell_of}
use Rattle.rules.specs.Grammar.Trees.{Bits}
use Rattle.rules.specs.Declarations.{Word, Names, from_left, BitNames, Target, Declared, Table, number_of, Reach, reach_storage, reach_of, reach_number, reach, access_low, access_bits}
use Rattle.rules.specs.Limits.{largest_name, most_bits}
use Rattle.rules.specs.Steps.Evaluation.{word_or70, word_of}
use Rattle.laws_orders.proofs.Orders.Tests.{impossible}
use Rattle.laws_accepted.specs.Cited.Declared.{Declares}
use Rattle.laws_accepted.proofs.Accepted.Declared.{near_words, few_words}
use Rattle.laws_accepted.proofs.Accepted.Reached.{declared_carried}
use Rattle.laws_accepted.proofs.Accepted.Within.{reach_inside}
use Rattle.promise.specs.Accesses.{left_name, right_name, access_cell}
use Rattle.operands.specs.Cells.{cell_first, cell_low, cell_bits, cell_left, cell_right, Parts}

-- the parts of the cell i by its bytes
module _ (b : List ℕ) (byte : (k : ℕ) → get_or b k 0 < 256) (i : ℕ) where
  abbrev o : ℕ
  o = 8 * i

  whole : value_cell_of b i
      ≡ get_or b o 0 + 256 * get_or b (o + 1) 0 + 65536 * get_or b (o + 2) 0 + 16777216 * get_or b (o + 3) 0
      + 4294967296 * (get_or b (o + 4) 0 + 256 * get_or b (o + 5) 0) + 281474976710656 * (get_or b (o + 6) 0 + 256 * get_or b (o + 7) 0)
  unfolding le_at
  whole = simp add_assoc (omega arith)

  two : (j k : ℕ) → 2 * j ≡ o + k → bytes.cell 2 b j ≡ get_or b (o + k) 0 + 256 * get_or b (o + (k + 1)) 0
  unfolding le_at
  two j k e = rw e (simp add_assoc (omega arith))

  pub first_bytes : bytes.cell 2 b (4 * i) ≡ cell_first (value_cell_of b i)
  unfolding le_at
  first_bytes = let e : 2 * (4 * i) ≡ o = omega arith in rw e (omega (arith, whole, byte o, byte (o + 1)))

  pub low_byte : get_or b (o + 2) 0 ≡ cell_low (value_cell_of b i)
  low_byte = omega (arith, whole, byte o, byte (o + 1), byte (o + 2))

  pub count_byte : get_or b (o + 3) 0 ≡ cell_bits (value_cell_of b i)
  count_byte = omega (arith, whole, byte o, byte (o + 1), byte (o + 2), byte (o + 3))

  pub left_bytes : bytes.cell 2 b (4 * i + 2) ≡ cell_left (value_cell_of b i)
  left_bytes = omega (arith, whole, two (4 * i + 2) 4 (omega arith), byte o, byte (o + 1), byte (o + 2), byte (o + 3), byte (o + 4), byte (o + 5))

  pub right_bytes : bytes.cell 2 b (4 * i + 3) ≡ cell_right (value_cell_of b i)
  right_bytes = omega (arith, whole, two (4 * i + 3) 6 (omega arith), byte o, byte (o + 1), byte (o + 2), byte (o + 3), byte (o + 4), byte (o + 5))

-- what is small enough is given back
pub parts : (r : Reach) (b : Bits) → r.first < 2 ^ 16 → access_low r b < 2 ^ 8 → access_bits r b < 2 ^ 8 → left_name r.words < 2 ^ 16
    → right_name r.words < 2 ^ 16 → Parts (access_cell r b) r b
unfolding access_cell
parts r b f l n p q = record { first = omega arith; low = omega arith; bits = omega arith; left = omega arith; right = omega arith }

left_first : (s : Names) → from_left s s.left ≡ some 0
unfolding from_left
left_first s =
    let a = le-leb (min s.left s.right) s.left (omega arith) in
    let b = le-leb s.left (max s.left s.right) (omega arith) in
    rw (from_left, a, b) (by (leb s.left s.right))
  where
    none_off : s.left - s.left ≡ 0
    none_off = omega arith

    by : (t : Bool) → ◌≡◌ {A = Option ℕ} (elim t [ true ↦ some (s.left - s.left) | false ↦ some (s.left - s.left) ]) (some 0)
    by true = ap some none_off
    by false = ap some none_off

-- names of words are at most 4,095
pub record Named (w : Option Names) : Type 0 where
  pub left : left_name w ≤ largest_name
  pub right : right_name w ≤ largest_name

module _ {outer : Word} {ds : Table} (h : Declares outer ds) where
  bitless : (i : ℕ) (d : Declared) (o : Option Target) → d.bits ≡ none → reach_of ds i d o ≡ none
  unfolding reach_of reach_storage
  bitless i d none e = rw e refl
  bitless i d (some t) e = rw e refl

  pub words_named : (n : Word) (r : Reach) → reach ds n ≡ some r → Named r.words
  unfolding reach reach_number
  words_named n r e = number (number_of ds n) e
    where
      names : (i : ℕ) (d : Declared) → get_elem? ds i ≡ some d → (w : Option Names) → d.words ≡ w → Named w
      names i d k none q = record { left = omega arith; right = omega arith }
      names i d k (some s) q = let m = near_words h i d k s q in record { left = m.left; right = m.right }

      declared : (i : ℕ) (d : Declared) → get_elem? ds i ≡ some d → (b : Option BitNames) → d.bits ≡ b → reach_of ds i d d.target ≡ some r → Named r.words
      declared i d k none p z = impossible (cc (bitless i d d.target p))
      declared i d k (some c) p z =
          let m = declared_carried h i d k c p in
          let q : m.0 ≡ r = cc m.1 in
          names i d k r.words (sym m.2.words ∙ ap (λ (r : Reach). r.words) q)

      at : (i : ℕ) (o : Option Declared) → get_elem? ds i ≡ o → (elim o [ none ↦ none | some d ↦ reach_of ds i d d.target ]) ≡ some r → Named r.words
      at i none k z = impossible (cc)
      at i (some d) k z = declared i d k d.bits refl z

      number : (o : Option ℕ) → reach_number ds o ≡ some r → Named r.words
      number none z = impossible (cc)
      number (some i) z = at i (get_elem? ds i) refl z

  first_small : (n : Word) (r : Reach) → reach ds n ≡ some r → r.first < 2 ^ 16
  unfolding word_of word_or70
  first_small n r e = by r.words refl
    where
      by : (w : Option Names) → r.words ≡ w → r.first < 2 ^ 16
      by none q = omega (arith, few_words h, reach_inside h n r 0 0 0 e (ap (λ (w : Option Names). word_of 0 w 0) q))
      by (some s) q =
          omega (arith, few_words h, reach_inside h n r 0 s.left 0 e (ap (λ (w : Option Names). word_of 0 w s.left) q ∙ ap (word_or70 0) (left_first s)))

  -- the cell of a name that reaches r, and bits inside a word
  pub cell_parts : (n : Word) (r : Reach) (b : Bits) → reach ds n ≡ some r → access_low r b + access_bits r b ≤ most_bits → Parts (access_cell r b) r b
  cell_parts n r b e fits =
      let w = words_named n r e in
      parts r b (first_small n r e) (omega arith) (omega arith) (omega (arith, w.left)) (omega (arith, w.right))
