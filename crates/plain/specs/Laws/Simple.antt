-- Simple actions: what the table has for them, and their least faults.
-- Assumes nothing.
use Prim.Native.Nat.{ℕ, ◌+◌, ◌*◌, ◌<◌, ◌≤◌, min}
use Rattle.std.specs.Prelude.{◌≡◌, Bool, true, false, not, List, [], ◌∷◌, ◌++◌, length, Option as Answer, is_some}
use Rattle.std.proofs.Math.Path.{refl, sym, ap, ap₂}
use Rattle.std.proofs.Common.{◌∙◌, append_assoc, arith}
use Rattle.std.proofs.Math.Option.{Option, none, some}
use Rattle.cells.specs.Cells.{cell}
use Rattle.rules.specs.Text.Tokens.{Kind, Name, Equals, Info, tk}
use Rattle.rules.specs.Limits.{longest_text}
use Rattle.rules.specs.Grammar.Trees.{Action, operand_tokens, tail_tokens}
use Rattle.rules.specs.Grammar.Precedence.{expr_of}
use Rattle.rules.specs.Declarations.{declared_of, reach}
use Rattle.rules.specs.Faults.Fault.{fault, when}
use Rattle.rules.specs.Faults.Declared.{is_known}
use Rattle.rules.specs.Faults.Bodies.{faults_in, judge, judge_joined, judge_destination, stored_twice, action_faults}
use Rattle.rules.specs.Whole.Sets.{owner_in}
use Rattle.records.specs.Holds.{token_at, place_cell, inside_cell}
use Rattle.keys.specs.Keys.{key, no_key, least_by, least_key}
use Rattle.keys.specs.Laws.Keys.{fault_key, no_fault_key, least_append}
use Rattle.table.specs.Meaning.{outer_only, unknown_name}
use Rattle.table.specs.Laws.Positions.{Here, here}
use Rattle.table.specs.Views.{View, BodyAt}
use Rattle.table.specs.Laws.Views.{no_body, a_body}
use Rattle.records.specs.Words.{word_at}
use Rattle.table.specs.Operators.{ends_expression}
use Rattle.stacks.specs.Stacks.{stacked_words, NameView}
use Rattle.expressions.specs.Expressions.{ExpressionAt, ExpressionAnswer}
use Rattle.destinations.specs.Destinations.{DestinationAt, DestinationAnswer}
use Rattle.accesses.specs.Laws.Lookups.{Found, view_of, undeclared, declared}
use Rattle.accesses.specs.declared.Judged.{Judged as Value}
use Rattle.destinations.specs.declared.Checked.{Checked}
use Rattle.plain.specs.Stage.{outer_of, table_of}
use Rattle.plain.specs.Laws.Stage.{scene_of, name_view}
use Rattle.plain.specs.Actions.{EndsAction, by_semi, by_next, by_end, by_comma}
use Rattle.plain.specs.Jumps.{JumpView, jump_faults, CallView, call_faults, TransferView, TransferAnswer}
use Rattle.plain.specs.Laws.Known.{token_room, token_place, place_small, name_here}

-- LEAVE AND RESTART
module _ {records room : List ℕ} {i count : ℕ} (v : JumpView records room i count) where
  keyword_within : i < length v.stage.tokens
  keyword_within = let w = v.target.within in omega arith

  pub jump_room : 8 * (i + 1) + 8 ≤ length records
  jump_room = token_room v.stage v.target.within

  pub jump_place : place_cell records i ≤ longest_text
  jump_place = omega (arith, token_place v.stage keyword_within, place_small v.stage keyword_within)

  abbrev pub jump_name : NameView records room count (i + 1)
  jump_name = name_view v.stage v.stacked v.target v.large

  abbrev aimed : Bool
  aimed = is_known (word_at v.stage.tokens (i + 1)) (stacked_words v.stage.tokens room count)

  pub jump_aims : true ≡ aimed → no_key ≡ least_key (jump_faults v)
  jump_aims e = sym (ap (λ b. least_key (when (not b) 44 (token_at v.stage.tokens i).info.place)) (sym e) ∙ no_fault_key 44 (token_at v.stage.tokens i).info.place)

  pub jump_misses : {p r : ℕ} → false ≡ aimed → p ≡ place_cell records i → r ≡ key (fault 44 p) → r ≡ least_key (jump_faults v)
  jump_misses e f g =
      g ∙ ap (λ q. key (fault 44 q)) (f ∙ token_place v.stage keyword_within)
      ∙ sym (ap (λ b. least_key (when (not b) 44 (token_at v.stage.tokens i).info.place)) (sym e) ∙ fault_key 44 (token_at v.stage.tokens i).info.place (omega arith) (place_small v.stage keyword_within))

-- ACTIVATIONS
module _ {records decls : List ℕ} {i : ℕ} (v : CallView records decls i) where
  abbrev info : Info
  info = (token_at v.stage.tokens i).info

  pub call_room : 8 * i + 8 ≤ length records
  call_room = token_room v.stage v.name.within

  pub call_place : place_cell records i ≤ longest_text
  call_place = omega (arith, token_place v.stage v.name.within, place_small v.stage v.name.within)

  one_fault : (n : ℕ) → n < 128 → {p r : ℕ} → p ≡ place_cell records i → r ≡ key (fault n p) → call_faults v ≡ when true n info.place → r ≡ least_key (call_faults v)
  one_fault n h e f g =
      f ∙ ap (λ q. key (fault n q)) (e ∙ token_place v.stage v.name.within)
      ∙ sym (ap least_key g ∙ fault_key n info.place h (place_small v.stage v.name.within))

  abbrev named : token_at v.stage.tokens i ≡ tk Name info
  named = name_here v.name

  module _ {k p r : ℕ} (is_meaning : k ≡ inside_cell records i) (is_place : p ≡ place_cell records i) where
    pub call_unknown : k ≡ unknown_name → r ≡ key (fault 40 p) → r ≡ least_key (call_faults v)
    call_unknown u f =
        let q = undeclared (scene_of v.stage) i info v.name.within named false (sym is_meaning ∙ u) in
        one_fault 40 (omega arith) is_place f (rw (q.0, q.1) refl)

    pub call_outer : k ≡ outer_only → r ≡ key (fault 41 p) → r ≡ least_key (call_faults v)
    call_outer o f =
        let q = undeclared (scene_of v.stage) i info v.name.within named true (sym is_meaning ∙ o) in
        one_fault 41 (omega arith) is_place f (rw (q.0, q.1) refl)

  -- declared, with a body or without
  module _ {k : ℕ} (is_meaning : k ≡ inside_cell records i) (u : k ≡ unknown_name → ⊥) (o : k ≡ outer_only → ⊥) where
    abbrev pub call_found : Found (scene_of v.stage) k
    call_found = (declared (scene_of v.stage) i info v.name.within named k is_meaning u o).1

    abbrev pub call_view : {d : ℕ} → d ≡ cell 2 decls k → View records v.values d
    call_view e = view_of (scene_of v.stage) e call_found

    by_body : (x : Option Action) → (declared_of call_found.declaration).body ≡ x
        → call_faults v ≡ elim x [ none ↦ fault 41 info.place ∷ [] | some a ↦ [] ]
    by_body x e =
        rw ((declared (scene_of v.stage) i info v.name.within named k is_meaning u o).0, call_found.listed)
        (ap (λ (y : Option Action). elim y [ none ↦ fault 41 info.place ∷ [] | some a ↦ [] ]) e)

    pub call_bodiless : {p r : ℕ} (b : Answer ℕ) → p ≡ place_cell records i → BodyAt v.stage.tokens b (declared_of call_found.declaration).body → is_some b ≡ false
        → r ≡ key (fault 41 p) → r ≡ least_key (call_faults v)
    call_bodiless b is_place at z f =
        one_fault 41 (omega arith) is_place f (by_body none (no_body v.stage.tokens b (declared_of call_found.declaration).body at z))

    pub call_lawful : (b : Answer ℕ) → BodyAt v.stage.tokens b (declared_of call_found.declaration).body → is_some b ≡ true → no_key ≡ least_key (call_faults v)
    unfolding least_by
    call_lawful b at z = let a = a_body v.stage.tokens b (declared_of call_found.declaration).body at z in sym (ap least_key (by_body (some a.0) a.1))

-- TRANSFERS
pub ends_expression_lem : {k : Kind} → EndsAction k → ends_expression k ≡ true
ends_expression_lem by_semi = refl
ends_expression_lem by_next = refl
ends_expression_lem by_end = refl
ends_expression_lem by_comma = refl

module _ {records values decls : List ℕ} {i depth : ℕ} (v : TransferView records values decls i depth) where
  abbrev pub transfer_destination : DestinationAt records values decls i depth
  transfer_destination = record {
    scene = scene_of v.stage;
    name = v.name;
    subscript = v.subscript;
    bits = v.bits;
    joined = v.joined;
    equals = v.equals;
    rest = operand_tokens v.first (tail_tokens v.tail (v.next ∷ v.rest));
    reads = v.reads;
    shallow = let s = v.shallow in omega arith;
  }

  module _ {to : Checked} (d : DestinationAnswer transfer_destination to) where
    abbrev equals_here : Here v.stage.tokens to.next (tk Equals v.equals) (operand_tokens v.first (tail_tokens v.tail (v.next ∷ v.rest)))
    equals_here = here v.stage.tokens to.next _ _ d.behind

    pub equals_within : to.next < 8192
    equals_within = omega (arith, equals_here.within, v.stage.ready.holds.few)

    abbrev pub transfer_expression : ExpressionAt records values decls (to.next + 1) depth
    transfer_expression = record {
      scene = scene_of v.stage;
      first = v.first;
      tail = v.tail;
      next = v.next;
      rest = v.rest;
      reads = equals_here.behind;
      ends = ends_expression_lem v.ends;
      shallow = let s = v.shallow in omega arith;
    }

    pub transfer_answer : {value : Value} {r : ℕ} → ExpressionAnswer transfer_expression value → r ≡ min to.key value.key
        → TransferAnswer v (record { key = r; next = value.next })
    unfolding action_faults faults_in
    transfer_answer {value} {r} e k = record {
      key =
          let outer = outer_of v.stage in
          let ds = table_of v.stage in
          let inside = (judge outer ds (expr_of v.first v.tail)).faults in
          let together = judge_joined outer ds (judge_destination outer ds v.name v.subscript v.bits) v.joined in
          let twice = stored_twice outer ds (owner_in (reach ds v.name.word)) v.joined in
          k ∙ ap₂ min d.key e.weighs.key ∙ sym (least_append key (together ++ twice) inside) ∙ ap least_key (append_assoc together twice inside);
      past = let p = d.past in let q = e.past in omega arith;
      behind = e.behind;
    }
