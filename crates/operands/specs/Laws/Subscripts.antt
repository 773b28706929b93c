-- Laws of an access whose subscript is worked out: it lies outside of the words, or there is its word with its bits.
-- Assumes nothing.
use Rattle.std.specs.Prelude.{ℕ, ◌+◌, ◌-◌, ◌*◌, ◌<◌, ◌≤◌, min, max, ◌≡◌, Bool, true, false, ◌&&◌, List, ◌∷◌, leb, length, drop, Some, None, Ok, Err}
use Rattle.std.specs.Prelude.{Option as Maybe}
use Rattle.std.proofs.Math.Path.{refl, ap, subst}
use Rattle.std.proofs.Common.{sym, ap₂, ◌∙◌, arith, length-drop, leb-true}
use Rattle.std.proofs.Math.Option.{Option, none, some}
use Rattle.rules.specs.Text.Tokens.{kind_no, Token}
use Rattle.rules.specs.Limits.{most_tokens}
use Rattle.rules.specs.Grammar.Trees.{Tokens, bit, upto, Bits, all_bits, bits, bits_tokens}
use Rattle.rules.specs.Declarations.{Names, names, from_left, access_low, access_bits}
use Rattle.rules.specs.Steps.Evaluation.{Outcome, gives, faulty, then, Field, word_or70, word_of, field_in}
use Rattle.laws_orders.proofs.Orders.Tests.{impossible}
use Rattle.laws_accepted.proofs.Accepted.Named.{and_both}
use Rattle.records.specs.Holds.{place_cell, value_cell_of}
use Rattle.table.specs.Laws.Positions.{behind_far, record_within}
use Rattle.table.specs.Bits as table
use Rattle.table.specs.Bits.{BitsView, bits_size}
use Rattle.table.specs.Laws.Bits.{access_bits_lem, bits_length}
use Rattle.promise.specs.Accesses.{left_name, right_name}
use Rattle.operands.specs.declared.accesses.Field.{Field as Located}
use Rattle.table.specs.Laws.Operators.{no_bits}
use Rattle.operands.specs.Cells.{cell_left, cell_right, shown_word, located_at}
use Rattle.operands.specs.Subscripts.{BitsAt, SubscriptedAt, SubscriptedAnswer}

-- what is told of how many tokens they take
abbrev pub SizeTold : List ℕ → ℕ → ℕ → Type 0
SizeTold records p n = (values : List ℕ) (b : BitsView records values p) → n ≡ bits_size b.bits

bits_behind : (b : Bits) (ts : Tokens) → drop (bits_size (table.access_bits b)) (bits_tokens b ts) ≡ ts
bits_behind all_bits ts = refl
bits_behind (bits l n (bit g)) ts = refl
bits_behind (bits l n (upto c m g)) ts = refl

module _ {records : List ℕ} {p : ℕ} (v : BitsAt records p) where
  abbrev pub bits_view : BitsView records v.values p
  bits_view = record {
    text = v.text;
    tokens = v.tokens;
    holds = v.holds;
    bits = table.access_bits v.bits;
    next = v.next;
    rest = v.rest;
    ends = λ e. no_bits v.next.kind v.ends (ap kind_no e);
    reads = v.reads ∙ access_bits_lem v.bits (v.next ∷ v.rest);
  }

  bits_fit : p + bits_size (table.access_bits v.bits) < most_tokens
  bits_fit =
      omega (arith, v.holds.few, length-drop p v.tokens, ap length (v.reads ∙ access_bits_lem v.bits (v.next ∷ v.rest)), bits_length (table.access_bits v.bits) (v.next ∷ v.rest))

  pub bits_small : {n : ℕ} → SizeTold records p n → p + n < most_tokens
  bits_small f = omega (arith, bits_fit, f v.values bits_view)

  pub behind_bits : {n : ℕ} → SizeTold records p n → drop (p + n) v.tokens ≡ v.next ∷ v.rest
  behind_bits {n} f =
      behind_far v.tokens p _ v.reads n
      ∙ ap (λ k. drop k (bits_tokens v.bits (v.next ∷ v.rest))) (f v.values bits_view)
      ∙ bits_behind v.bits (v.next ∷ v.rest)

-- the same bits
pub same : (k : ℕ) {w w' l l' n n' : ℕ} → w ≡ w' → l ≡ l' → n ≡ n'
    → ◌≡◌ {A = Outcome Field} (gives (record { word = w' + k; low = l'; size = n' })) (gives (record { word = w + k; low = l; size = n }))
same k p q r = cc

-- a word that is there stands no further from the left than the other end
far : (s : Names) (n k : ℕ) → s.left < 65536 → s.right < 65536 → from_left s n ≡ some k → k < 65536
unfolding from_left
far s n k l r e = by (leb (min s.left s.right) n && leb n (max s.left s.right)) refl e
  where
    inside : leb (min s.left s.right) n && leb n (max s.left s.right) ≡ true → (min s.left s.right ≤ n) × (n ≤ max s.left s.right)
    inside q =
        let b = and_both (leb (min s.left s.right) n) (leb n (max s.left s.right)) q in
        (leb-true (min s.left s.right) n b.0, leb-true n (max s.left s.right) b.1)

    way : (t : Bool) → (min s.left s.right ≤ n) × (n ≤ max s.left s.right)
        → ◌≡◌ {A = Option ℕ} (elim t [ true ↦ some (n - s.left) | false ↦ some (s.left - n) ]) (some k) → k < 65536
    way true q z = let h : n - s.left ≡ k = cc in omega (arith, q.1)
    way false q z = let h : s.left - n ≡ k = cc in omega arith

    by : (t : Bool) → leb (min s.left s.right) n && leb n (max s.left s.right) ≡ t
        → ◌≡◌ {A = Option ℕ} (elim t [ true ↦ elim (leb s.left s.right) [ true ↦ some (n - s.left) | false ↦ some (s.left - n) ] | false ↦ none ]) (some k)
        → k < 65536
    by true q z = way (leb s.left s.right) (inside q) z
    by false q z = impossible (cc)

module _ {records values : List ℕ} {i n p : ℕ} (v : SubscriptedAt records values i n p) where
  pub name_room : 8 * i + 8 ≤ length records
  name_room = record_within v.behind.holds i v.within

  -- what the name of the word comes to
  as_field : (o : Option ℕ) → from_left v.words n ≡ o
      → field_in v.name v.behind.bits v.reached n
      ≡ then (word_or70 v.name.place o) (λ k. gives (record { word = v.reached.first + k; low = access_low v.reached v.behind.bits; size = access_bits v.reached v.behind.bits }))
  unfolding field_in word_of
  as_field o q =
      ap (λ (w : Option Names). then (word_of v.name.place w n) (λ k. gives (record { word = v.reached.first + k; low = access_low v.reached v.behind.bits; size = access_bits v.reached v.behind.bits }))) v.has
      ∙ ap (λ (o : Option ℕ). then (word_or70 v.name.place o) (λ k. gives (record { word = v.reached.first + k; low = access_low v.reached v.behind.bits; size = access_bits v.reached v.behind.bits }))) q

  -- the word is looked for between the names that the cell has
  module _ {l r : ℕ} {w : Maybe ℕ} (el : l ≡ cell_left (value_cell_of values i)) (er : r ≡ cell_right (value_cell_of values i)) (e : w ≡ shown_word (from_left (names l r) n)) where
    found : w ≡ shown_word (from_left v.words n)
    found =
        e ∙ ap₂ (λ l r. shown_word (from_left (names l r) n)) (el ∙ v.parts.left ∙ ap left_name v.has) (er ∙ v.parts.right ∙ ap right_name v.has)

    pub outside_answer : w ≡ None → {q : ℕ} → q ≡ place_cell records i → SubscriptedAnswer v (Err (record { place = q }))
    unfolding then word_or70
    outside_answer o {q} at = by (from_left v.words n) refl (sym found ∙ o)
      where
        place : q ≡ v.name.place
        place = at ∙ (v.behind.holds.entry i v.within).place ∙ ap (λ (t : Token). t.info.place) v.here

        by : (m : Option ℕ) → from_left v.words n ≡ m → shown_word m ≡ None → SubscriptedAnswer v (Err (record { place = q }))
        by none f z = as_field none f ∙ ap (faulty 70) (sym place)
        by (some k) f z = impossible (cc)

    module _ {k : ℕ} (o : w ≡ Some k) where
      is_at : from_left v.words n ≡ some k
      is_at = by (from_left v.words n) (sym found ∙ o)
        where
          by : (m : Option ℕ) → shown_word m ≡ Some k → m ≡ some k
          by none z = impossible (cc)
          by (some j) z = let h : j ≡ k = cc in ap some h

      pub word_small : k < 65536
      word_small = far v.words n k v.left_small v.right_small is_at

      pub word_answer : {q : ℕ} {d : Located} → SizeTold records p q → d ≡ located_at (value_cell_of values i) k (p + q) → SubscriptedAnswer v (Ok d)
      unfolding then word_or70
      word_answer {q} size is = subst (λ d. SubscriptedAnswer v (Ok d)) (sym is) (record {
        comes = as_field (some k) is_at ∙ same k v.parts.first v.parts.low v.parts.bits;
        past = let b = v.before in omega arith;
        behind = behind_bits v.behind size;
      })
