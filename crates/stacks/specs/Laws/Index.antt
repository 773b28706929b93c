-- A name is looked up by its spelling: what the index has is right.
-- Assumes nothing.
use Prim.Native.Nat.{ℕ, zero, suc, ◌+◌, ◌*◌, ◌<◌, ◌≤◌}
use Rattle.std.specs.Prelude.{◌≡◌, Bool, true, false, List, eqb, ltb, length}
use Rattle.std.proofs.Math.Path.{refl, ap, ap₂}
use Rattle.std.proofs.Common.{sym, ◌∙◌, arith, eq-eqb, ne_eqb, lt-ltb, le-ltb}
use Rattle.std.proofs.Math.Bool.{◌||◌, or-true}
use Rattle.std.proofs.Math.Decide.{dec_lt}
use Rattle.cells.specs.Cells.{cell}
use Rattle.rules.specs.Text.Scan.{same_bytes}
use Rattle.rules.specs.Limits.{most_tokens}
use Rattle.rules.specs.Faults.Declared.{is_known}
use Rattle.records.specs.Holds.{link_cell}
use Rattle.records.specs.Words.{word_at}
use Rattle.stacks.specs.Stacks.{stacked_words, indexed, NameView, FoundAt}
use Rattle.room.specs.Bodies.{index_from}

module _ {records room : List ℕ} {count i : ℕ} (v : NameView records room count i) where
  pub spelling_small : link_cell records i < most_tokens
  spelling_small = omega (arith, (v.spelled.name i v.name).within, v.few)

  pub stacked_room : {k p : ℕ} → k < count → p ≡ cell 2 room k → 8 * p + 8 ≤ length records
  stacked_room {k} l e = omega (arith, (v.stacked.each k l).within, v.record_room)

  -- WHERE IT STANDS: k is what the index has
  pub found_top : {k s : ℕ} → s ≡ link_cell records i → k ≡ cell 2 room (index_from + s) → count ≤ k → FoundAt records room count i count
  found_top e f l = record {
    within = omega arith;
    alike = λ m. absurd (omega arith);
    by_index = λ m. absurd (omega arith);
    none = λ _ j m same. omega (arith, v.stacked.lower j m, ap (λ x. cell 2 room (index_from + x)) same, f, ap (λ x. cell 2 room (index_from + x)) e);
  }

  module _ {k s p q : ℕ} (e : s ≡ link_cell records i) (f : k ≡ cell 2 room (index_from + s)) (l : k < count) (g : p ≡ cell 2 room k) (h : q ≡ link_cell records p) where
    pub found_here : q ≡ s → FoundAt records room count i k
    found_here same = record {
      within = omega arith;
      alike = λ _. cc;
      by_index = λ _. cc;
      none = λ m. absurd (omega arith);
    }

    pub found_other : (q ≡ s → ⊥) → FoundAt records room count i count
    found_other other = record {
      within = omega arith;
      alike = λ m. absurd (omega arith);
      by_index = λ m. absurd (omega arith);
      none = λ _ j m same.
          let there : k ≡ indexed records room (cell 2 room j) = f ∙ ap (λ x. cell 2 room (index_from + x)) (e ∙ sym same) in
          let like : link_cell records (cell 2 room k) ≡ link_cell records (cell 2 room j) = rw there (v.stacked.alike j m) in
          other (h ∙ ap (link_cell records) g ∙ like ∙ same ∙ sym e);
    }

  -- WHETHER IT IS KNOWN
  abbrev known : ℕ → Bool
  known n = is_known (word_at v.tokens i) (stacked_words v.tokens room n)

  alike_words : (k : ℕ) → k < count → eqb (link_cell records (cell 2 room k)) (link_cell records i) ≡ same_bytes (word_at v.tokens (cell 2 room k)) (word_at v.tokens i)
  alike_words k l = v.spelled.same (cell 2 room k) i (v.stacked.each k l) v.name

  known_by_top : (k : ℕ) → k < count → known (suc k) ≡ eqb (link_cell records (cell 2 room k)) (link_cell records i) || known k
  unfolding stacked_words is_known
  known_by_top k l = ap (λ b. b || known k) (sym (alike_words k l))

  known_upto : (k : ℕ) → link_cell records (cell 2 room k) ≡ link_cell records i → (n : ℕ) → k < n → n ≤ count → known n ≡ true
  known_upto k e zero l m = absurd (omega arith)
  known_upto k e (suc n) l m = by (dec_lt k n) (λ h. known_upto k e n h (omega arith))
    where
      by : Dec (k < n) → (k < n → known n ≡ true) → known (suc n) ≡ true
      by (yes h) f = known_by_top n m ∙ ap (◌||◌ (eqb (link_cell records (cell 2 room n)) (link_cell records i))) (f h) ∙ or-true (eqb (link_cell records (cell 2 room n)) (link_cell records i))
      by (no h) f =
          let last : n ≡ k = omega arith in
          known_by_top n m ∙ ap (λ b. b || known n) (eq-eqb _ _ (ap (λ x. link_cell records (cell 2 room x)) last ∙ e))

  unknown_upto : ((k : ℕ) → k < count → link_cell records (cell 2 room k) ≡ link_cell records i → ⊥) → (n : ℕ) → n ≤ count → known n ≡ false
  unfolding stacked_words is_known
  unknown_upto none zero l = refl
  unknown_upto none (suc n) l = known_by_top n l ∙ ap₂ ◌||◌ (ne_eqb _ _ (none n l)) (unknown_upto none n (omega arith))

  pub found_known : {r : ℕ} → FoundAt records room count i r → ltb r count ≡ known count
  found_known {r} found = by (dec_lt r count)
    where
      by : Dec (r < count) → ltb r count ≡ known count
      by (yes l) = lt-ltb r count l ∙ sym (known_upto r (found.alike l) count l (omega arith))
      by (no l) = le-ltb r count (omega arith) ∙ sym (unknown_upto (found.none (omega (arith, found.within))) count (omega arith))
