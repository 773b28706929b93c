-- The pass over the labels of an action: what is left of them between a token and the action's end.
-- Assumes nothing.
use Prim.Native.Nat.{ℕ, suc, ◌+◌, ◌*◌, ◌<◌, ◌≤◌, min}
use Rattle.std.specs.Prelude.{◌≡◌, Bool, true, false, ◌&&◌, eqb, length, take, drop}
use Rattle.std.proofs.Math.Path.{refl, ap, ap₂}
use Rattle.std.proofs.Common.{sym, ◌∙◌, add-one, eqb-true, length-drop, length-append, take-add, drop_at, length-take-le}
use mathlib.Core.List.{List, [], ◌∷◌, ◌++◌}
use native.Mathlib.Omega.{arith}
use Rattle.std.proofs.Math.Decide.{dec_lt}
use Rattle.std.proofs.Math.Seq.{slice, slice_empty, slice-cons, take-append_seam}
use Rattle.rules.specs.Text.Tokens.{Name, Becomes, same, Info, tk}
use Rattle.rules.specs.Text.Scan.{plain_info}
use Rattle.rules.specs.Grammar.Trees.{Tokens, action_tokens}
use Rattle.rules.specs.Faults.Bodies.{labels, label_faults}
use Rattle.laws_grammar.specs.Cited.Kinds.{kind_at}
use Rattle.laws_grammar.specs.Grammar.Kinds.{kind_at_kind_no}
use Rattle.laws_grammar.specs.Grammar.Positions.{action_writes}
use Rattle.records.specs.Holds.{kind_byte, token_at}
use Rattle.keys.specs.Keys.{key, no_key, least_by, least_key}
use Rattle.keys.specs.Laws.Keys.{least_bounded, least_append}
use Rattle.table.specs.Laws.Positions.{here, record_within}
use Rattle.records.specs.Words.{NameAt, word_at}
use Rattle.stacks.specs.Stacks.{stacked_words, Stacked, NameView, Pushed}
use Rattle.room.specs.Bodies.{index_from, index_end}
use Rattle.stacks.specs.Laws.Kept.{none_stacked}
use Rattle.stacks.specs.Laws.Pushed.{push_words, push_stacked}
use Rattle.accesses.specs.Laws.Tests.{both_true}
use Rattle.plain.specs.Stage.{Stage}
use Rattle.plain.specs.Laws.Stage.{name_view}
use Rattle.plain.specs.Labels.{label_at, known_names, LabelView, label_fault, LabelsView, all_label_faults}
use Rattle.plain.specs.Laws.Labels.{starts_becomes, with_label, labels_in, action_labels}

-- a label, by the table and by the tokens
table_label : {text records values decls : List ℕ} (s : Stage text records values decls) (at : ℕ) → at + 1 < length s.tokens
    → label_at records at ≡ same (token_at s.tokens at).kind Name && same (token_at s.tokens (at + 1)).kind Becomes
table_label s at l =
    ap₂ (λ m n. eqb m 0 && eqb n 12) (s.ready.holds.entry at (omega arith)).kind (s.ready.holds.entry (at + 1) l).kind

pub label_name : {text records values decls : List ℕ} (s : Stage text records values decls) (at : ℕ) → at + 1 < length s.tokens → label_at records at ≡ true
    → NameAt s.tokens at
label_name {records = records} s at l e =
    let k = (both_true (eqb (kind_byte records at) 0) (eqb (kind_byte records (at + 1)) 12) e).0 in
    record { within = omega arith; kind = sym (kind_at_kind_no _) ∙ ap kind_at (sym (s.ready.holds.entry at (omega arith)).kind ∙ eqb-true (kind_byte records at) 0 k) }

module _ {text records values decls : List ℕ} {i j : ℕ} (v : LabelsView text records values decls i j) where
  abbrev ts : Tokens
  ts = v.stage.tokens

  abbrev own : Tokens
  own = action_tokens v.action []

  behind_within : j < length ts
  behind_within = omega (arith, ap length v.behind, length-drop j ts)

  reads_own : drop i ts ≡ own ++ (v.next ∷ v.rest)
  reads_own = v.reads ∙ (action_writes v.action).grows [] (v.next ∷ v.rest)

  ends_there : j ≡ i + length own
  ends_there = omega (arith, ap length v.behind, length-drop j ts, ap length reads_own, length-drop i ts, length-append own (v.next ∷ v.rest))

  -- the tokens from `at` up to j
  abbrev pub left : ℕ → List Info
  left at = labels_in (slice at j ts)

  own_slice : slice i j ts ≡ own
  own_slice =
      let before : i ≤ length ts = let e = ends_there in let l = behind_within in omega arith in
      ap (λ n. drop i (take n ts)) ends_there
      ∙ ap (drop i) (take-add i (length own) ts)
      ∙ drop_at (take i ts) (take (length own) (drop i ts)) i (length-take-le i ts before)
      ∙ ap (take (length own)) reads_own ∙ take-append_seam own (v.next ∷ v.rest)

  pub left_all : left i ≡ labels v.action []
  unfolding labels_in
  left_all = ap labels_in own_slice ∙ action_labels v.action [] refl

  pub left_none : left j ≡ []
  unfolding labels_in
  left_none = ap labels_in (slice_empty j ts)

  -- one token more; the token behind the action is no `:=`
  next_becomes : (at : ℕ) → at < j → starts_becomes (slice (suc at) j ts) ≡ same (token_at ts (at + 1)).kind Becomes
  next_becomes at l = rw add-one (go (dec_lt (suc at) j))
    where
      go : Dec (suc at < j) → starts_becomes (slice (suc at) j ts) ≡ same (token_at ts (suc at)).kind Becomes
      go (yes m) = ap starts_becomes (slice-cons (suc at) j ts (tk Name (plain_info 0)) m (omega (arith, behind_within)))
      go (no n) =
          let e : suc at ≡ j = omega arith in
          let there : token_at ts j ≡ v.next = (here ts j v.next v.rest v.behind).token in
          rw (e, slice_empty j ts, there) (sym v.ends)

  left_step : (at : ℕ) → at < j
      → left at ≡ with_label (same (token_at ts at).kind Name && same (token_at ts (at + 1)).kind Becomes) (token_at ts at).info (left (at + 1))
  unfolding labels_in
  left_step at l =
      ap labels_in (slice-cons at j ts (tk Name (plain_info 0)) l (omega (arith, behind_within)))
      ∙ ap₂ (λ b n. with_label (same (token_at ts at).kind Name && b) (token_at ts at).info (left n)) (next_becomes at l) (sym (add-one at))

  -- by what the table has
  pub left_next : {at : ℕ} {b : Bool} → at < j → b ≡ label_at records at → left at ≡ with_label b (token_at ts at).info (left (at + 1))
  left_next {at} l e =
      let inside = behind_within in
      left_step at l ∙ ap (λ x. with_label x (token_at ts at).info (left (at + 1))) (sym (e ∙ table_label v.stage at (omega arith)))

-- ON THE WAY: what is found so far, and what the labels left have
pub record Passing {text records values decls : List ℕ} {i j : ℕ} (v : LabelsView text records values decls i j) (room : List ℕ) (at count k : ℕ) : Type 0 where
  pub within : at ≤ j
  pub low : count ≤ at
  pub stacked : Stacked records v.stage.tokens room count
  pub same_key : min k (least_key (label_faults (stacked_words v.stage.tokens room count ++ known_names v.stage) (left v at))) ≡ least_key (all_label_faults v)

module _ {text records values decls : List ℕ} {i j : ℕ} (v : LabelsView text records values decls i j) where
  pub pass_starts : (room : List ℕ) → Passing v room i 0 no_key
  unfolding stacked_words
  pass_starts room = record {
    within = omega (arith, ends_there v);
    low = omega arith;
    stacked = none_stacked records v.stage.tokens room;
    same_key = ap (λ ls. min no_key (least_key (label_faults (known_names v.stage) ls))) (left_all v) ∙ omega (arith, least_bounded key (all_label_faults v));
  }

  pub pass_ends : {room : List ℕ} {at count k : ℕ} → Passing v room at count k → k ≤ no_key → j ≤ at → k ≡ least_key (all_label_faults v)
  unfolding label_faults least_by
  pass_ends {room} {at} {count} {k} p h l =
      let e : at ≡ j = let w = p.within in omega arith in
      let none = ap (left v) e ∙ left_none v in
      omega (arith, p.same_key, ap (λ ls. least_key (label_faults (stacked_words v.stage.tokens room count ++ known_names v.stage) ls)) none)

  pub pass_room : {room : List ℕ} {at count k : ℕ} → Passing v room at count k → at < j → (8 * (at + 1) + 8 ≤ length records) × ((at < 8192) × (count < 8192))
  pass_room {at = at} p l =
      let few = v.stage.ready.holds.few in
      let inside = behind_within v in
      let low = p.low in
      (record_within v.stage.ready.holds (at + 1) (omega arith), (omega arith, omega arith))

  module _ {room : List ℕ} {at count k : ℕ} (p : Passing v room at count k) (l : at < j) where
    pub pass_on : {b : Bool} → b ≡ label_at records at → b ≡ false → Passing v room (at + 1) count k
    pass_on f g = let e = left_next v l f ∙ ap (λ x. with_label x (token_at v.stage.tokens at).info (left v (at + 1))) g in record {
      within = omega arith;
      low = let w = p.low in omega arith;
      stacked = p.stacked;
      same_key = ap (λ ls. min k (least_key (label_faults (stacked_words v.stage.tokens room count ++ known_names v.stage) ls))) (sym e) ∙ p.same_key;
    }

    module _ {t : Bool} (is : t ≡ label_at records at) (yes_label : t ≡ true) (large : 2 * index_end ≤ length room) where
      pub label_now : NameAt v.stage.tokens at
      label_now = label_name v.stage at (let inside = behind_within v in omega arith) (sym is ∙ yes_label)

      abbrev pub pass_label : LabelView text records values decls room count at
      pass_label = record { stage = v.stage; stacked = p.stacked; name = label_now; large = large }

      pub pass_push : NameView records room count at × (count < index_from)
      pass_push = (name_view v.stage p.stacked label_now large, let b = (pass_room p l).1 in omega arith)

      pub pass_pushed : {f : ℕ} {room' : List ℕ} → f ≡ least_key (label_fault pass_label) → Pushed records count at room room'
          → Passing v room' (at + 1) (count + 1) (min k f)
      unfolding label_faults
      pass_pushed {f} g q =
          let e = left_next v l is ∙ ap (λ x. with_label x (token_at v.stage.tokens at).info (left v (at + 1))) yes_label in
          let known = stacked_words v.stage.tokens room count ++ known_names v.stage in
          let after = label_faults (word_at v.stage.tokens at ∷ known) (left v (at + 1)) in
          record {
            within = omega arith;
            low = let w = p.low in omega arith;
            stacked = push_stacked q v.stage.tokens p.stacked (let b = (pass_room p l).1 in omega arith) label_now;
            same_key =
                ap (λ ws. min (min k f) (least_key (label_faults (ws ++ known_names v.stage) (left v (at + 1))))) (push_words q v.stage.tokens)
                ∙ omega (arith, g, least_append key (label_fault pass_label) after, ap (λ ls. least_key (label_faults known ls)) e, p.same_key);
          }
