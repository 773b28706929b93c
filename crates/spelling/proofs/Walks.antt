-- Laws of the search for a name, as it goes from node to node.
-- Assumes nothing.
use Prim.Native.Nat.{ℕ, ◌+◌, ◌*◌, ◌-◌, ◌<◌, ◌≤◌}
use mathlib.Core.Path.{◌≡◌, sym, ap, ◌∙◌}
use mathlib.Core.Bool.{Bool, true, false, false≢true}
use mathlib.Core.List.{List}
use native.Mathlib.Omega.{arith}
use native.Mathlib.Numerals.{add-one}
use native.Mathlib.Decide.{dec_lt}
use lib.ListN.{length}
use Rattle.cells.specs.Cells.{cell}
use Rattle.rules.specs.Limits.{most_tokens}
use Rattle.rules.specs.Text.Scan.{same_bytes}
use Rattle.rules.specs.Grammar.Trees.{Tokens}
use Rattle.records.specs.Holds.{size_byte, place_cell, folded_at}
use Rattle.records.specs.Words.{word_at, TwoNames, same_words}
use Rattle.records.specs.Laws.Words.{word_folded, word_inside}
use Rattle.spelling.specs.Trees.{no_node, hash_of, bit_of, cell_behind, node_behind, Passes}
use Rattle.room.specs.Spelling.{heads, room_size}
use Rattle.spelling.specs.Spelling.{Seeking, Ends}
use Rattle.laws_accepted.proofs.Accepted.Named.{same_equal, same_itself}

-- the search for the name i has come to the cell c behind d nodes
pub record Comes (room : List ℕ) (ts : Tokens) (i c d : ℕ) : Type 0 where
  pub cell : c ≡ cell_behind room (word_at ts i) d
  pub passes : Passes room ts i (word_at ts i) d

pub record Inv (text records room : List ℕ) (i c d : ℕ) : Type 0 where
  pub comes : (v : Seeking text records room i) → Comes room v.spelling.tokens i c d
  pub inside : c < heads + 2 * i
  pub deep : d ≤ c

-- where the word of the name stands
module _ {text records room : List ℕ} {i p n : ℕ} (place : p ≡ place_cell records i) (size : n ≡ size_byte records i) where
  pub in_text : Seeking text records room i → p + n ≤ length text
  in_text v = rw (place, size) (word_inside v.spelling.holds v.name)

  word_there : (v : Seeking text records room i) → folded_at text p n ≡ word_at v.spelling.tokens i
  word_there v = rw (place, size) (sym (word_folded v.spelling.holds v.name))

  pub begins : {c : ℕ} → c ≡ hash_of (folded_at text p n) → c < heads → Inv text records room i c 0
  unfolding cell_behind
  begins e l = record {
    comes = λ v. record {
      cell = e ∙ ap hash_of (word_there v);
      passes = record { before = λ k h. absurd (omega arith); other = λ k h. absurd (omega arith) };
    };
    inside = omega arith;
    deep = omega arith;
  }

  module _ {c d : ℕ} (inv : Inv text records room i c d) {x : ℕ} (node : x ≡ cell 2 room c) where
    pub ends_empty : x ≡ no_node → (v : Seeking text records room i) → Ends room v.spelling.tokens i c
    ends_empty e v = let w = inv.comes v in record {
      depth = d;
      comes = w.cell;
      passes = w.passes;
      inside = inv.inside;
      same = λ f. absurd (f (sym node ∙ e));
    }

    module _ (some_node : x ≡ no_node → ⊥) where
      abbrev pub both_names : Seeking text records room i → TwoNames text records x i
      both_names v = record {
        values = v.spelling.values;
        tokens = v.spelling.tokens;
        holds = v.spelling.holds;
        first = rw node (v.spelling.spelled.grown.node c inv.inside (λ e. some_node (node ∙ e))).name;
        second = v.name;
      }

      module _ {same : Bool} (compared : (u : TwoNames text records x i) → same ≡ same_words u) where
        pub ends_same : same ≡ true → (v : Seeking text records room i) → Ends room v.spelling.tokens i c
        ends_same y v = let w = inv.comes v in record {
          depth = d;
          comes = w.cell;
          passes = w.passes;
          inside = inv.inside;
          same = λ f. ap (word_at v.spelling.tokens) (sym node) ∙ same_equal _ _ (sym (compared (both_names v)) ∙ y);
        }

        -- on to the child
        module _ (differ : same ≡ false) {b : ℕ} (bit : b ≡ bit_of (folded_at text p n) d) where
          module _ (v : Seeking text records room i) where
            abbrev word : List ℕ
            word = word_at v.spelling.tokens i

            there : node_behind room word d ≡ x
            there = ap (cell 2 room) (sym (inv.comes v).cell) ∙ sym node

            other_word : word_at v.spelling.tokens (node_behind room word d) ≡ word → ⊥
            other_word e =
                let words : word_at v.spelling.tokens x ≡ word = ap (word_at v.spelling.tokens) (sym there) ∙ e in
                false≢true (sym differ ∙ (compared (both_names v) ∙ (ap (λ (y : List ℕ). same_bytes y word) words ∙ same_itself word)))

            before_name : node_behind room word d < i
            before_name = rw (there, node) (v.spelling.spelled.grown.node c inv.inside (λ e. some_node (node ∙ e))).before

            one_passed : Passes room v.spelling.tokens i word (d + 1)
            one_passed = record { before = λ k l. before k l (dec_lt k d); other = λ k l. other k l (dec_lt k d) }
              where
                before : (k : ℕ) → k < d + 1 → Dec (k < d) → node_behind room word k < i
                before k l (yes y) = (inv.comes v).passes.before k y
                before k l (no z) = let e : k ≡ d = omega arith in rw e before_name

                other : (k : ℕ) → k < d + 1 → Dec (k < d) → word_at v.spelling.tokens (node_behind room word k) ≡ word → ⊥
                other k l (yes y) = (inv.comes v).passes.other k y
                other k l (no z) = let e : k ≡ d = omega arith in rw e other_word

            next_cell : heads + 2 * x + b ≡ cell_behind room word (d + 1)
            unfolding cell_behind
            next_cell = rw (add-one, there, bit, word_there v)

          pub node_before : Seeking text records room i → x < i
          node_before v = rw (sym (there v)) (before_name v)

          pub node_rises : Seeking text records room i → c < heads + 2 * x
          node_rises v = omega (arith, node, (v.spelling.spelled.grown.node c inv.inside (λ e. some_node (node ∙ e))).rises)

          pub goes_on : Seeking text records room i → b < 2 → Inv text records room i (heads + 2 * x + b) (d + 1)
          goes_on s small = record {
            comes = λ v. record {
              cell = next_cell v;
              passes = one_passed v;
            };
            inside = omega (arith, node_before s);
            deep = omega (arith, inv.deep, node_rises s);
          }

          pub closer : Seeking text records room i → heads + 2 * i - (heads + 2 * x + b) < heads + 2 * i - c
          closer v = omega (arith, inv.inside, node_rises v)

-- the table and the room have what the search reads
module _ {text records room : List ℕ} {i : ℕ} (v : Seeking text records room i) where
  few_tokens : i < most_tokens
  few_tokens = omega (arith, v.spelling.within, v.spelling.holds.few)

  pub record_inside : 8 * i + 8 ≤ length records
  record_inside = omega (arith, v.spelling.within, v.spelling.holds.record_room)

  module _ {c d : ℕ} (inv : Inv text records room i c d) where
    pub cell_inside : room_size ≤ length room → 2 * c + 2 ≤ length room
    cell_inside l = omega (arith, few_tokens, inv.inside)

    pub depth_small : d < 65536
    depth_small = omega (arith, few_tokens, inv.inside, inv.deep)
