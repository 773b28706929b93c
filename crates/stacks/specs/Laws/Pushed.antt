-- One name more on a stack.
-- Assumes nothing.
use Rattle.std.specs.Prelude.{ℕ, ◌+◌, ◌*◌, ◌<◌, ◌≤◌, ◌≡◌, List, ◌∷◌, length}
use Rattle.std.proofs.Common.{sym, ap, ap₂, ◌∙◌, arith}
use Rattle.std.proofs.Math.Numerals.{add-one}
use Rattle.std.proofs.Math.Decide.{dec_lt, ℕ_discrete}
use Rattle.cells.specs.Cells.{cell, put_cell}
use Rattle.cells.proofs.Laws.{length_put, le_put_same, le_put_below, le_put_above}
use Rattle.rules.specs.Grammar.Trees.{Tokens}
use Rattle.records.specs.Holds.{link_cell}
use Rattle.records.specs.Words.{NameAt, word_at}
use Rattle.stacks.specs.Stacks.{stacked_words, index_cell, indexed, Stacked, NameView, FoundAt, Kept, Pushed}
use Rattle.room.specs.Bodies.{index_from}
use Rattle.stacks.specs.Laws.Kept.{kept_put, kept_then, kept_words, kept_index, kept_alike}
use Rattle.stacks.specs.Laws.Index.{spelling_small}

-- THE INDEX TAKES THE POSITION THAT WAS FOUND: a spelling that it has already stays where it is
module _ {records room : List ℕ} {count i r : ℕ} (v : NameView records room count i) (low : count < index_from) (found : FoundAt records room count i r) where
  abbrev entered : List ℕ
  entered = put_cell 2 room (index_cell records i) r

  entered_index : indexed records entered i ≡ r
  entered_index = le_put_same 2 room (2 * index_cell records i) r (omega (arith, v.large, spelling_small v)) (omega (arith, found.within))

  found_low : (k : ℕ) → k < count → link_cell records (cell 2 room k) ≡ link_cell records i → r < count
  found_low k l e = by (dec_lt r count)
    where
      by : Dec (r < count) → r < count
      by (yes m) = m
      by (no m) = absurd (found.none (omega (arith, found.within)) k l e)

  other_cell : (c : ℕ) → (c ≡ index_cell records i → ⊥) → cell 2 entered c ≡ cell 2 room c
  other_cell c n = by (dec_lt c (index_cell records i))
    where
      by : Dec (c < index_cell records i) → cell 2 entered c ≡ cell 2 room c
      by (yes l) = le_put_below 2 2 room (2 * index_cell records i) r (2 * c) (omega arith)
      by (no l) = le_put_above 2 2 room (2 * index_cell records i) r (2 * c) (let m : index_cell records i < c = omega arith in omega arith)

  entered_kept : Kept records count (count + 1) room entered
  entered_kept = record {
    long = length_put 2 room (2 * index_cell records i) r;
    below = λ k l. other_cell k (λ e. omega arith);
    above = λ k l m. other_cell k (λ e. omega arith);
    index = λ k l. by k l (ℕ_discrete (link_cell records (cell 2 room k)) (link_cell records i));
  }
    where
      by : (k : ℕ) → k < count → Dec (link_cell records (cell 2 room k) ≡ link_cell records i) → indexed records entered (cell 2 room k) ≡ indexed records room (cell 2 room k)
      by k l (no n) = other_cell (index_cell records (cell 2 room k)) (λ e. n (omega arith))
      by k l (yes e) = rw e (entered_index ∙ sym (found.by_index (found_low k l e)))

  abbrev pushed : List ℕ
  pushed = put_cell 2 entered count i

  pushed_kept : Kept records count (count + 1) room pushed
  pushed_kept = kept_then entered_kept (kept_put entered count i (omega arith) (omega arith) low)

  on_top : cell 2 pushed count ≡ i
  on_top = le_put_same 2 entered (2 * count) i (omega (arith, v.large, entered_kept.long)) (omega (arith, v.name.within, v.few))

  pushed_index : indexed records pushed i ≡ r
  pushed_index = le_put_above 2 2 entered (2 * count) i (2 * index_cell records i) (omega arith) ∙ entered_index

  pushed_alike : Dec (r < count) → link_cell records (cell 2 pushed r) ≡ link_cell records i
  pushed_alike (yes l) = ap (link_cell records) (pushed_kept.below r l) ∙ found.alike l
  pushed_alike (no l) =
      let e : r ≡ count = omega (arith, found.within) in
      ap (λ x. link_cell records (cell 2 pushed x)) e ∙ ap (link_cell records) on_top

  pub is_pushed : {s : ℕ} {room₁ room₂ : List ℕ} → s ≡ link_cell records i → room₁ ≡ put_cell 2 room (index_from + s) r → room₂ ≡ put_cell 2 room₁ count i
      → Pushed records count i room room₂
  is_pushed {room₂ = room₂} e f g =
      let is_room : room₂ ≡ pushed = g ∙ ap (λ x. put_cell 2 x count i) (f ∙ ap (λ x. put_cell 2 room (index_from + x) r) e) in
      rw is_room (record {
        kept = pushed_kept;
        top = on_top;
        lower = rw pushed_index found.within;
        alike = rw pushed_index (pushed_alike (dec_lt r count));
      })

-- WHAT IS STACKED THEN
module _ {records : List ℕ} {count i : ℕ} {room₀ room : List ℕ} (p : Pushed records count i room₀ room) (ts : Tokens) where
  pub push_words : stacked_words ts room (count + 1) ≡ word_at ts i ∷ stacked_words ts room₀ count
  unfolding stacked_words
  push_words = rw add-one (ap₂ (λ k ws. word_at ts k ∷ ws) p.top (kept_words p.kept ts))

  pub push_stacked : Stacked records ts room₀ count → 2 * count + 2 ≤ length room₀ → NameAt ts i → Stacked records ts room (count + 1)
  push_stacked s fits n = record {
    fits = rw p.kept.long (omega arith);
    each = λ k l. each k (dec_lt k count) l;
    lower = λ k l. lower k (dec_lt k count) l;
    alike = λ k l. alike k (dec_lt k count) l;
  }
    where
      each : (k : ℕ) → Dec (k < count) → k < count + 1 → NameAt ts (cell 2 room k)
      each k (yes m) l = rw (p.kept.below k m) (s.each k m)
      each k (no m) l = let e : k ≡ count = omega arith in rw (e, p.top) n

      lower : (k : ℕ) → Dec (k < count) → k < count + 1 → indexed records room (cell 2 room k) ≤ k
      lower k (yes m) l = rw (kept_index p.kept k m) (s.lower k m)
      lower k (no m) l = let e : k ≡ count = omega arith in rw (e, p.top) p.lower

      alike : (k : ℕ) → Dec (k < count) → k < count + 1 → link_cell records (cell 2 room (indexed records room (cell 2 room k))) ≡ link_cell records (cell 2 room k)
      alike k (yes m) l = rw (kept_index p.kept k m) (kept_alike p.kept (indexed records room₀ (cell 2 room₀ k)) k (s.lower k m) m (s.alike k m))
      alike k (no m) l = let e : k ≡ count = omega arith in rw (e, p.top) p.alike
