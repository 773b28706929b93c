-- Laws of spelling one token more.
-- Assumes nothing.
use Rattle.std.specs.Prelude.{ℕ, ◌+◌, ◌*◌, ◌<◌, ◌≤◌, ◌≡◌, refl, Bool, true, false, List, eqb, length}
use Rattle.std.proofs.Common.{sym, ap, ◌∙◌, arith, eq-eqb, ne_eqb}
use Rattle.std.proofs.lemmas.Bool.{false≢true}
use Rattle.std.proofs.Math.Decide.{dec_lt, ℕ_discrete}
use Rattle.cells.specs.Cells.{cell, put_cell}
use Rattle.cells.proofs.Laws.{cell_same, cell_other}
use Rattle.rules.specs.Limits.{most_tokens}
use Rattle.rules.specs.Text.Scan.{same_bytes}
use Rattle.rules.specs.Grammar.Trees.{Tokens}
use Rattle.records.specs.Holds.{link_cell}
use Rattle.records.specs.Kept.{LinkPut}
use Rattle.records.specs.Words.{NameAt, word_at}
use Rattle.spelling.specs.Spelled.{Spelled}
use Rattle.spelling.specs.Trees.{no_node, Node, Grown}
use Rattle.room.specs.Spelling.{heads, room_size}
use Rattle.spelling.specs.Spelling.{Spells, SpelledTo, Ends, Cleared, Opened}
use Rattle.laws_accepted.proofs.Accepted.Named.{same_equal, same_itself}
use Rattle.spelling.specs.Laws.Trees.{Keeps, cell_kept, passes_kept, finds_kept, found_once}

keeps_itself : (room : List ℕ) (i : ℕ) → Keeps room room i
keeps_itself room i = record { kept = λ c l b. refl }

spells_kept : {old now : List ℕ} {ts : Tokens} {i j x : ℕ} → Keeps old now i → (next : ℕ) → i ≤ next → Spells old ts i j x → Spells now ts next j x
spells_kept k next l s = record { name = s.name; word = s.word; found = finds_kept k next l s.found }

node_next : {ts : Tokens} {i c x : ℕ} → Node ts i c x → Node ts (i + 1) c x
node_next n = record { before = omega (arith, n.before); name = n.name; rises = n.rises }

-- before the first token nothing is spelled
pub none_spelled : {room : List ℕ} (records : List ℕ) (ts : Tokens) → Cleared room 0 heads → SpelledTo records room ts 0
none_spelled records ts r = record {
  grown = record { node = λ c l n. absurd (n (r.none c (omega arith) (omega arith))) };
  each = λ j l n. absurd (omega arith);
}

module _ {records room : List ℕ} {ts : Tokens} {i : ℕ} (s : SpelledTo records room ts i) where
  -- the children of the token i are no part of the trees yet
  pub opened_still : {now : List ℕ} → Opened room now i → SpelledTo records now ts i
  opened_still {now} o = record {
    grown = record { node = λ c l n. rw (o.kept c l) (s.grown.node c l (λ e. n (o.kept c l ∙ e))) };
    each = λ j l n. spells_kept record { kept = λ c h b. o.kept c h } i (omega arith) (s.each j l n);
  }

  one_more : {now after : List ℕ} → Grown after ts (i + 1) → Keeps room after i → ((j : ℕ) → j < i → link_cell now j ≡ link_cell records j)
      → (NameAt ts i → Spells after ts (i + 1) i (link_cell now i)) → SpelledTo now after ts (i + 1)
  one_more {now} {after} grown keeps links new = record { grown = grown; each = λ j l n. by j l n (dec_lt j i) }
    where
      by : (j : ℕ) → j < i + 1 → NameAt ts j → Dec (j < i) → Spells after ts (i + 1) j (link_cell now j)
      by j l n (yes y) = rw (links j y) (spells_kept keeps (i + 1) (omega arith) (s.each j y n))
      by j l n (no z) = let e : j ≡ i = omega arith in rw e (new (rw e at n))

  module _ (cleared : Cleared room (heads + 2 * i) (heads + 2 * (i + 1))) where
    grown_open : Grown room ts (i + 1)
    grown_open = record { node = λ c l n. by c l n (dec_lt c (heads + 2 * i)) }
      where
        by : (c : ℕ) → c < heads + 2 * (i + 1) → (cell 2 room c ≡ no_node → ⊥) → Dec (c < heads + 2 * i) → Node ts (i + 1) c (cell 2 room c)
        by c l n (yes y) = node_next (s.grown.node c y n)
        by c l n (no z) = absurd (n (cleared.none c (omega arith) l))

    pub no_name_spelled : (NameAt ts i → ⊥) → SpelledTo records room ts (i + 1)
    no_name_spelled f = one_more grown_open (keeps_itself room i) (λ j l. refl) (λ n. absurd (f n))

    module _ (name : NameAt ts i) {c : ℕ} (ends : Ends room ts i c) where
      pub node_spelled : {now : List ℕ} {x : ℕ} → x ≡ cell 2 room c → (x ≡ no_node → ⊥) → LinkPut records now i x → SpelledTo now room ts (i + 1)
      node_spelled {now} {x} e f put = one_more grown_open (keeps_itself room i) (λ j l. put.kept.link j (λ a b. omega arith)) (λ n. rw (put.link, e) spelt)
        where
          some_node : cell 2 room c ≡ no_node → ⊥
          some_node q = f (e ∙ q)

          spelt : Spells room ts (i + 1) i (cell 2 room c)
          spelt = record {
            name = (s.grown.node c ends.inside some_node).name;
            word = ends.same some_node;
            found = finds_kept (keeps_itself room i) (i + 1) (omega arith) record {
              depth = ends.depth;
              passes = ends.passes;
              comes = ap (cell 2 room) (sym ends.comes);
              before = (s.grown.node c ends.inside some_node).before;
            };
          }

      -- the name itself is the node where there was none
      module _ (long : room_size ≤ length room) (few : i < most_tokens) (none : cell 2 room c ≡ no_node) where
        abbrev after : List ℕ
        after = put_cell 2 room c i

        there : cell 2 after c ≡ i
        there = cell_same 2 room c i (omega (arith, ends.inside)) (omega arith)

        keeps : Keeps room after i
        keeps = record { kept = λ k l b. cell_other 2 room c i k (λ e. let z : cell 2 room k ≡ no_node = ap (cell 2 room) e ∙ none in omega arith) }

        grown_by_one : Grown after ts (i + 1)
        grown_by_one = record { node = λ k l n. by k l n (ℕ_discrete k c) }
          where
            by : (k : ℕ) → k < heads + 2 * (i + 1) → (cell 2 after k ≡ no_node → ⊥) → Dec (k ≡ c) → Node ts (i + 1) k (cell 2 after k)
            by k l n (yes e) = rw (e, there) record { before = omega arith; name = name; rises = omega (arith, ends.inside) }
            by k l n (no z) = let e = cell_other 2 room c i k z in rw e (grown_open.node k l (λ q. n (e ∙ q)))

        itself : Spells after ts (i + 1) i i
        itself = record {
          name = name;
          word = refl;
          found = record {
            depth = ends.depth;
            passes = passes_kept keeps (i + 1) (omega arith) ends.passes;
            comes = ap (cell 2 after) (cell_kept keeps (i + 1) (omega arith) ends.passes ∙ sym ends.comes) ∙ there;
            before = omega arith;
          };
        }

        pub new_spelled : {now room₁ : List ℕ} → room₁ ≡ after → LinkPut records now i i → SpelledTo now room₁ ts (i + 1)
        new_spelled is put = rw is (one_more grown_by_one keeps (λ j l. put.kept.link j (λ a b. omega arith)) (λ n. rw put.link itself))

-- behind the last token all names are spelled
module _ {records room : List ℕ} {ts : Tokens} {n : ℕ} (s : SpelledTo records room ts n) (count : n ≡ length ts) where
  each_spelled : (i : ℕ) → NameAt ts i → Spells room ts n i (link_cell records i)
  each_spelled i l = s.each i (omega (arith, l.within)) l

  same_number : (i j : ℕ) → NameAt ts i → NameAt ts j → word_at ts i ≡ word_at ts j → link_cell records i ≡ link_cell records j
  same_number i j l m e =
      let x = each_spelled i l in
      let y = each_spelled j m in
      found_once x.found (rw e y.found) x.word (y.word ∙ sym e)

  same_word : (i j : ℕ) → NameAt ts i → NameAt ts j → link_cell records i ≡ link_cell records j → word_at ts i ≡ word_at ts j
  same_word i j l m e = sym (each_spelled i l).word ∙ (ap (word_at ts) e ∙ (each_spelled j m).word)

  as_numbers : (i j : ℕ) → NameAt ts i → NameAt ts j → eqb (link_cell records i) (link_cell records j) ≡ same_bytes (word_at ts i) (word_at ts j)
  as_numbers i j l m = by (same_bytes (word_at ts i) (word_at ts j)) refl
    where
      by : (b : Bool) → same_bytes (word_at ts i) (word_at ts j) ≡ b → eqb (link_cell records i) (link_cell records j) ≡ b
      by true e = eq-eqb _ _ (same_number i j l m (same_equal _ _ e))
      by false e = ne_eqb _ _ (λ q. false≢true (sym e ∙ (ap (same_bytes (word_at ts i)) (sym (same_word i j l m q)) ∙ same_itself (word_at ts i))))

  pub all_spelled : Spelled records ts
  all_spelled = record { name = λ i l. (each_spelled i l).name; word = λ i l. (each_spelled i l).word; same = as_numbers }
