-- Names that stay on a stack while cells above them are written.
-- Assumes nothing.
use Prim.Native.Nat.{ℕ, zero, suc, ◌*◌, ◌<◌, ◌≤◌}
use Rattle.std.specs.Prelude.{◌≡◌, List, ◌∷◌}
use Rattle.std.proofs.Math.Path.{refl, ap₂}
use Rattle.std.proofs.Common.{sym, ap, ◌∙◌, arith}
use Rattle.cells.specs.Cells.{cell, put_cell}
use Rattle.cells.proofs.Laws.{length_put, le_put_below, le_put_above}
use Rattle.rules.specs.Grammar.Trees.{Tokens}
use Rattle.records.specs.Holds.{link_cell}
use Rattle.records.specs.Words.{word_at}
use Rattle.stacks.specs.Stacks.{stacked_words, indexed, Stacked, Kept}
use Rattle.room.specs.Bodies.{index_from}

pub none_stacked : (records : List ℕ) (ts : Tokens) (room : List ℕ) → Stacked records ts room 0
none_stacked records ts room = record {
  fits = omega arith;
  each = λ k l. absurd (omega arith);
  lower = λ k l. absurd (omega arith);
  alike = λ k l. absurd (omega arith);
}

module _ {records : List ℕ} where
  pub kept_all : (count base : ℕ) (room : List ℕ) → Kept records count base room room
  kept_all count base room = record { long = refl; below = λ k l. refl; above = λ k l m. refl; index = λ k l. refl }

  pub kept_then : {count base : ℕ} {room₀ room room' : List ℕ} → Kept records count base room₀ room → Kept records count base room room'
      → Kept records count base room₀ room'
  kept_then {room' = room'} p q = record {
    long = q.long ∙ p.long;
    below = λ k l. q.below k l ∙ p.below k l;
    above = λ k l m. q.above k l m ∙ p.above k l m;
    index = λ k l. rw (p.below k l) at (q.index k l) ∙ p.index k l;
  }

  pub kept_less : {count base count' base' : ℕ} {room₀ room : List ℕ} → Kept records count' base' room₀ room → count ≤ count' → base' ≤ base
      → Kept records count base room₀ room
  kept_less p lc lb = record {
    long = p.long;
    below = λ k l. p.below k (omega arith);
    above = λ k l m. p.above k (omega arith) m;
    index = λ k l. p.index k (omega arith);
  }

  pub kept_put : {count base : ℕ} (room : List ℕ) (k v : ℕ) → count ≤ k → k < base → k < index_from → Kept records count base room (put_cell 2 room k v)
  kept_put room k v l h m = record {
    long = length_put 2 room (2 * k) v;
    below = λ j b. le_put_below 2 2 room (2 * k) v (2 * j) (omega arith);
    above = λ j a b. le_put_above 2 2 room (2 * k) v (2 * j) (omega arith);
    index = λ j b. le_put_above 2 2 room (2 * k) v _ (omega arith);
  }

module _ {records : List ℕ} {count base : ℕ} {room₀ room : List ℕ} (p : Kept records count base room₀ room) where
  -- the index has the same position for a name that stays, and there a name with the same spelling
  pub kept_index : (k : ℕ) → k < count → indexed records room (cell 2 room k) ≡ indexed records room₀ (cell 2 room₀ k)
  kept_index k l = ap (indexed records room) (p.below k l) ∙ p.index k l

  pub kept_alike : (j k : ℕ) → j ≤ k → k < count → link_cell records (cell 2 room₀ j) ≡ link_cell records (cell 2 room₀ k)
      → link_cell records (cell 2 room j) ≡ link_cell records (cell 2 room k)
  kept_alike j k h l e = ap (link_cell records) (p.below j (omega arith)) ∙ e ∙ sym (ap (link_cell records) (p.below k l))

  module _ (ts : Tokens) where
    words_upto : (n : ℕ) → n ≤ count → stacked_words ts room n ≡ stacked_words ts room₀ n
    unfolding stacked_words
    words_upto zero l = refl
    words_upto (suc n) l = ap₂ (λ i ws. word_at ts i ∷ ws) (p.below n l) (words_upto n (omega arith))

    pub kept_words : stacked_words ts room count ≡ stacked_words ts room₀ count
    kept_words = words_upto count (omega arith)

    pub kept_stacked : Stacked records ts room₀ count → Stacked records ts room count
    kept_stacked s = record {
      fits = let f = s.fits in rw p.long f;
      each = λ k l. rw (p.below k l) (s.each k l);
      lower = λ k l. rw (kept_index k l) (s.lower k l);
      alike = λ k l. rw (kept_index k l) (kept_alike (indexed records room₀ (cell 2 room₀ k)) k (s.lower k l) l (s.alike k l));
    }
