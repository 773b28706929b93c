-- A DECODE: its test, and its alternatives, whose first token tells whether they have selectors.
-- Assumes nothing.
use Prim.Native.Nat.{ℕ, ◌+◌, ◌-◌, ◌*◌, ◌<◌, ◌≤◌, min}
use Rattle.std.specs.Prelude.{◌≡◌, refl, Bool, true, false, List, ◌∷◌, ◌++◌, length, drop}
use Rattle.std.proofs.Math.Path.{sym, ap, ap₂}
use Rattle.std.proofs.Common.{◌∙◌, true≢false, arith}
use Rattle.rules.specs.Text.Tokens.{Const, Masked, LBra, Arrow, BEGIN, OTHERWISE, Kind, Info, tk, kind_no}
use Rattle.rules.specs.Grammar.Trees.{Tokens, Action, decode, block, labelled, if_then, repeat, leave, restart, activate, stop, no_op, transfer, action_tokens}
use Rattle.rules.specs.Grammar.Trees.{exact, masked, one_of, any_of, Alternatives, counted, selected, alternatives_tokens, Selected, select, otherwise, selected_tokens}
use Rattle.rules.specs.Grammar.Precedence.{expr_of}
use Rattle.rules.specs.Faults.Bodies.{faults_in, judge, alternatives_faults, action_faults, inside_faults}
use Rattle.laws_grammar.specs.Cited.Heads.{head_kind}
use Rattle.laws_grammar.specs.Grammar.Heads.{action_head}
use Rattle.records.specs.Holds.{kind_byte}
use Rattle.keys.specs.Keys.{key, least_key}
use Rattle.keys.specs.Laws.Keys.{least_append}
use Rattle.table.specs.Laws.Positions.{Here, here, behind_far, kind_here}
use Rattle.stacks.specs.Stacks.{stacked_words}
use Rattle.expressions.specs.Expressions.{ExpressionAt, ExpressionAnswer}
use Rattle.accesses.specs.declared.Judged.{Judged as Value}
use Rattle.plain.specs.declared.Walked.{Walked}
use Rattle.plain.specs.Stage.{outer_of, table_of}
use Rattle.plain.specs.Laws.Stage.{scene_of}
use Rattle.plain.specs.Actions.{ActionView, faults_under, ActionAnswer, IsDecode}
use Rattle.actions.specs.Alternatives.{is_selector, IsCounted, IsSelected, ChoicesView, ChoicesAnswer}
use Rattle.plain.specs.Laws.Known.{token_room}

-- the first token of alternatives, which tells whether they have selectors
pub record Heads (ts : Tokens) (has : Bool) : Type 0 where
  pub kind : Kind
  pub info : Info
  pub tokens : Tokens
  pub is : ts ≡ tk kind info ∷ tokens
  pub tells : is_selector (kind_no kind) ≡ has

no_selector : (a : Action) → is_selector (kind_no (head_kind a)) ≡ false
no_selector (block b a m) = refl
no_selector (labelled n b a) = refl
no_selector (if_then i o t w a) = refl
no_selector (decode i o t w b v) = refl
no_selector (repeat i a) = refl
no_selector (leave i n) = refl
no_selector (restart i n) = refl
no_selector (activate n l r) = refl
no_selector (stop i l r) = refl
no_selector (no_op i l r) = refl
no_selector (transfer n s b j e o t) = refl

counted_heads : (a : Action) (ts : Tokens) → Heads (action_tokens a ts) false
counted_heads a ts = record { kind = _; info = _; tokens = _; is = action_head a ts; tells = no_selector a }

selected_heads : (s : Selected) (ts : Tokens) → Heads (selected_tokens s ts) true
selected_heads (select (one_of (exact i) r) b a m) ts = record { kind = Const; info = i; tokens = _; is = refl; tells = refl }
selected_heads (select (one_of (masked i) r) b a m) ts = record { kind = Masked; info = i; tokens = _; is = refl; tells = refl }
selected_heads (select (any_of x l r is) b a m) ts = record { kind = LBra; info = x; tokens = _; is = refl; tells = refl }
selected_heads (otherwise i b a e) ts = record { kind = OTHERWISE; info = i; tokens = _; is = refl; tells = refl }

abbrev has_selectors : Alternatives → Bool
has_selectors (counted a c) = false
has_selectors (selected s) = true

heads : (v : Alternatives) (ts : Tokens) → Heads (alternatives_tokens v ts) (has_selectors v)
heads (counted a c) ts = counted_heads a _
heads (selected s) ts = selected_heads s ts

are_counted : (v : Alternatives) → has_selectors v ≡ false → IsCounted v
are_counted (counted a c) e = (a, c, refl)
are_counted (selected s) e = absurd (true≢false e)

are_selected : (v : Alternatives) → has_selectors v ≡ true → IsSelected v
are_selected (counted a c) e = absurd (true≢false (sym e))
are_selected (selected s) e = (s, refl)

module _ {text records values decls room : List ℕ} {i count depth : ℕ} (v : ActionView text records values decls room i count depth) (p : IsDecode v.action) where
  abbrev choices : Alternatives
  choices = p.5

  abbrev rest : Tokens
  rest = v.next ∷ v.rest

  pub decode_deep : 0 < depth
  decode_deep = let n = rw p.6 at v.shallow in omega arith

  abbrev pub test_view : ExpressionAt records values decls (i + 1) depth
  test_view = record {
    scene = scene_of v.stage;
    first = p.1;
    tail = p.2;
    next = tk Arrow p.3;
    rest = tk BEGIN p.4 ∷ alternatives_tokens choices rest;
    reads = (here v.stage.tokens i _ _ (rw p.6 at v.reads)).behind;
    ends = refl;
    shallow = let n = rw p.6 at v.shallow in omega arith;
  }

  module _ {value : Value} (y : ExpressionAnswer test_view value) where
    pub choices_read : drop (value.next + 2) v.stage.tokens ≡ alternatives_tokens choices rest
    choices_read = behind_far v.stage.tokens value.next _ y.behind 2

    abbrev ahead : Heads (alternatives_tokens choices rest) (has_selectors choices)
    ahead = heads choices rest

    abbrev first_here : Here v.stage.tokens (value.next + 2) (tk ahead.kind ahead.info) ahead.tokens
    first_here = here v.stage.tokens (value.next + 2) _ _ (choices_read ∙ ahead.is)

    pub choices_inside : value.next + 2 < 8192
    choices_inside = omega (arith, first_here.within, v.stage.ready.holds.few)

    pub choices_room : 8 * (value.next + 2) + 8 ≤ length records
    choices_room = token_room v.stage first_here.within

    abbrev pub choices_view : ChoicesView text records values decls room (value.next + 2) count (depth - 1) value.bits
    choices_view = record {
      stage = v.stage;
      alternatives = choices;
      next = v.next;
      rest = v.rest;
      reads = choices_read;
      shallow = let n = rw p.6 at v.shallow in omega arith;
      bounded = let b = v.bounded in let d = decode_deep in omega arith;
      stacked = v.stacked;
      low = let l = v.low in let m = y.past in omega arith;
      large = v.large;
      few = omega (arith, y.weighs.bits, y.weighs.fine.few);
    }

    -- which alternatives they are
    module _ {c : ℕ} {t : Bool} (is_kind : c ≡ kind_byte records (value.next + 2)) (is_test : t ≡ is_selector c) where
      tells : t ≡ has_selectors choices
      tells = is_test ∙ ap is_selector (is_kind ∙ kind_here v.stage.ready.holds (value.next + 2) _ first_here.within first_here.token) ∙ ahead.tells

      pub with_selectors : t ≡ true → IsSelected choices
      with_selectors e = are_selected choices (sym tells ∙ e)

      pub without_selectors : t ≡ false → IsCounted choices
      without_selectors e = are_counted choices (sym tells ∙ e)

    pub decode_answer : {r : Walked} {k : ℕ} → ChoicesAnswer choices_view r → k ≡ min value.key r.key → ActionAnswer v (record { key = k; next = r.next })
    unfolding action_faults faults_in
    decode_answer {r} {k} a e = record {
      key =
          let outer = outer_of v.stage in
          let ds = table_of v.stage in
          let ws = stacked_words v.stage.tokens room count in
          let test = judge outer ds (expr_of p.1 p.2) in
          e ∙ ap₂ min y.weighs.key (a.key ∙ ap (λ n. least_key (alternatives_faults n choices ++ inside_faults outer ds ws choices)) y.weighs.bits)
          ∙ sym (least_append key test.faults (alternatives_faults test.bits choices ++ inside_faults outer ds ws choices))
          ∙ ap (λ x. least_key (faults_under v.stage room count x)) (sym p.6);
      past = let l = y.past in let m = a.past in omega arith;
      behind = a.behind;
    }
