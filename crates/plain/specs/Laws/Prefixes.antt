-- One prefix after the other: which stands in the table, and what is left behind it.
-- Assumes nothing.
use Prim.Native.Nat.{ℕ, ◌+◌, ◌*◌, ◌<◌, ◌≤◌, min}
use Rattle.std.specs.Prelude.{◌≡◌, refl, Bool, true, false, ◌&&◌, List, ◌∷◌, eqb, length, drop}
use Rattle.std.proofs.Common.{sym, ap₂, ◌∙◌, true≢false, arith}
use Rattle.std.proofs.Math.Path.{ap}
use borrow.Author.Tests.{eqb-true}
use Rattle.rules.specs.Text.Tokens.{Kind, Name, Arrow, Info, Token, tk, kind_no, REPEAT, IF, Becomes}
use Rattle.rules.specs.Grammar.Trees.{Tokens, Operand, operand_tokens, Tail, tail_tokens}
use Rattle.rules.specs.Grammar.Trees.{Action, block, labelled, if_then, decode, repeat, leave, restart, activate, stop, no_op, transfer, action_tokens}
use Rattle.rules.specs.Grammar.Precedence.{expr_of}
use Rattle.rules.specs.Faults.Bodies.{faults_in, judge, action_faults}
use Rattle.laws_grammar.specs.Cited.Nesting.{action_nest}
use Rattle.records.specs.Holds.{kind_byte, token_at}
use Rattle.keys.specs.Keys.{key, no_key, least_key}
use Rattle.keys.specs.Laws.Keys.{least_append, least_bounded}
use Rattle.table.specs.Laws.Positions.{here, behind_far}
use Rattle.records.specs.Words.{NameAt, word_at}
use Rattle.stacks.specs.Stacks.{stacked_words, NameView, Pushed}
use Rattle.room.specs.Bodies.{index_from, index_end}
use Rattle.stacks.specs.Laws.Pushed.{push_words, push_stacked}
use Rattle.expressions.specs.Expressions.{ExpressionAt, ExpressionAnswer}
use Rattle.accesses.specs.Laws.Tests.{both_true}
use Rattle.accesses.specs.declared.Judged.{Judged as Value}
use Rattle.plain.specs.Stage.{Stage, outer_of, table_of}
use Rattle.plain.specs.Laws.Stage.{scene_of, name_view}
use Rattle.plain.specs.Labels.{label_at}
use Rattle.plain.specs.Actions.{ActionView, faults_under}
use Rattle.plain.specs.Prefixes.{Bare, Ahead}
use Rattle.plain.specs.Laws.Forms.{second_token, first_kind, next_kind, action_within}
use Rattle.plain.specs.Laws.Known.{token_room}
use Rattle.plain.specs.Laws.Passes.{label_name}

module _ {text records values decls : List ℕ} (s : Stage text records values decls) (at : ℕ) (rest : Tokens) where
  pub data SeenPrefix (a : Action) : Type 0 where
    loop-seen : {x : Info} {b : Action} → kind_byte records at ≡ kind_no REPEAT → a ≡ repeat x b → SeenPrefix a
    test_seen : {x : Info} {o : Operand} {t : Tail} {w : Info} {b : Action} → kind_byte records at ≡ kind_no IF → a ≡ if_then x o t w b → SeenPrefix a
    label_seen : {n x : Info} {b : Action} → kind_byte records at ≡ kind_no Name → label_at records at ≡ true → a ≡ labelled n x b → SeenPrefix a
    bare_seen : (kind_byte records at ≡ kind_no REPEAT → ⊥) → (kind_byte records at ≡ kind_no IF → ⊥) → (label_at records at ≡ true → ⊥) → Bare a → SeenPrefix a

  -- a first token of another kind than a name
  keyword : (a : Action) (k : Kind) (x : Info) (xs : Tokens) → drop at s.tokens ≡ tk k x ∷ xs → (kind_no k ≡ kind_no Name → ⊥) → (kind_no k ≡ kind_no REPEAT → ⊥) → (kind_no k ≡ kind_no IF → ⊥) → Bare a
      → SeenPrefix a
  keyword a k x xs e n r i b =
      let is = first_kind s at rest _ e (omega arith) in
      bare_seen (λ z. r (sym is ∙ z)) (λ z. i (sym is ∙ z))
      (λ z. n (sym is ∙ eqb-true (kind_byte records at) 0 (both_true (eqb (kind_byte records at) 0) (eqb (kind_byte records (at + 1)) 12) z).0)) b

  -- a name with another token than `:=` behind it
  named : (a : Action) (n : Info) (xs : Tokens) → drop at s.tokens ≡ tk Name n ∷ xs → 0 < length xs → (kind_no (token_at xs 0).kind ≡ kind_no Becomes → ⊥) → Bare a → SeenPrefix a
  named a n xs e l d b =
      let is = first_kind s at rest _ e (omega arith) in
      let next = next_kind s at rest _ e (omega arith) in
      bare_seen (λ z. omega arith) (λ z. omega arith)
      (λ z. d (sym next ∙ eqb-true (kind_byte records (at + 1)) 12 (both_true (eqb (kind_byte records at) 0) (eqb (kind_byte records (at + 1)) 12) z).1)) b

  pub see_prefix : (a : Action) → drop at s.tokens ≡ action_tokens a rest → SeenPrefix a
  see_prefix (block b a m) e = keyword _ _ _ _ e (λ z. omega arith) (λ z. omega arith) (λ z. omega arith) tt
  see_prefix (labelled n b a) e =
      let is = first_kind s at rest _ e (omega arith) in
      let next = next_kind s at rest _ e (omega arith) in
      label_seen is (ap₂ (λ (k m : ℕ). eqb k 0 && eqb m 12) is next) refl
  see_prefix (if_then i o t w a) e = test_seen (first_kind s at rest _ e (omega arith)) refl
  see_prefix (decode i o t w b v) e = keyword _ _ _ _ e (λ z. omega arith) (λ z. omega arith) (λ z. omega arith) tt
  see_prefix (repeat i a) e = loop-seen (first_kind s at rest _ e (omega arith)) refl
  see_prefix (leave i n) e = keyword _ _ _ _ e (λ z. omega arith) (λ z. omega arith) (λ z. omega arith) tt
  see_prefix (restart i n) e = keyword _ _ _ _ e (λ z. omega arith) (λ z. omega arith) (λ z. omega arith) tt
  see_prefix (activate n l r) e = named _ _ _ e (omega arith) (λ z. omega arith) tt
  see_prefix (stop i l r) e = keyword _ _ _ _ e (λ z. omega arith) (λ z. omega arith) (λ z. omega arith) tt
  see_prefix (no_op i l r) e = keyword _ _ _ _ e (λ z. omega arith) (λ z. omega arith) (λ z. omega arith) tt
  see_prefix (transfer n x b j q o t) e =
      let second = second_token x b j q (operand_tokens o (tail_tokens t rest)) in
      named _ _ _ e second.0 second.1.1 tt

-- ON THE WAY
pub ahead_starts : {text records values decls room : List ℕ} {i count depth : ℕ} (v : ActionView text records values decls room i count depth) → Ahead v room no_key i count
ahead_starts {room = room} {count = count} v = record {
  action = v.action;
  reads = v.reads;
  shallow = v.shallow;
  stacked = v.stacked;
  low = v.low;
  more = omega arith;
  past = omega arith;
  same_key = omega (arith, least_bounded key (faults_under v.stage room count v.action));
}

module _ {text records values decls room₀ room : List ℕ} {i count₀ depth k at count : ℕ} {v : ActionView text records values decls room₀ i count₀ depth}
    (h : Ahead v room k at count) where
  abbrev rest : Tokens
  rest = v.next ∷ v.rest

  abbrev within : at + 1 < length v.stage.tokens
  within = action_within v.stage at h.action v.next v.rest h.reads

  pub ahead_inside : (at + 1 < 8192) × (count < 8192)
  ahead_inside = let l = h.low in (omega (arith, within, v.stage.ready.holds.few), omega (arith, within, v.stage.ready.holds.few))

  pub ahead_first : 8 * at + 8 ≤ length records
  ahead_first = token_room v.stage (let l = within in omega arith)

  pub ahead_second : 8 * (at + 1) + 8 ≤ length records
  ahead_second = token_room v.stage within

  abbrev Seen : Type 0
  Seen = SeenPrefix v.stage at rest h.action

  seen : Seen
  seen = see_prefix v.stage at rest h.action h.reads

  -- the same by another action that is left, with the same names
  abbrev Goes : Action → Type 0
  Goes a = (at' k' : ℕ) → drop at' v.stage.tokens ≡ action_tokens a rest → at < at' → action_nest a ≤ depth
      → min k' (least_key (faults_under v.stage room count a)) ≡ min k (least_key (faults_under v.stage room count h.action)) → Ahead v room k' at' count

  goes : (a : Action) → Goes a
  goes a at' k' d l n e = record {
    action = a;
    reads = d;
    shallow = n;
    stacked = h.stacked;
    low = let q = h.low in omega arith;
    more = h.more;
    past = let q = h.past in omega arith;
    same_key = e ∙ h.same_key;
  }

  module _ {c : ℕ} (is_kind : c ≡ kind_byte records at) where
    -- REPEAT
    pub ahead_loop : c ≡ kind_no REPEAT → Ahead v room k (at + 1) count
    unfolding action_faults
    ahead_loop e = go seen
      where
        go : Seen → Ahead v room k (at + 1) count
        go (loop-seen {x = x} {b = b} _ q) =
            goes b (at + 1) k (here v.stage.tokens at _ _ (rw q at h.reads)).behind (omega arith) (rw q at h.shallow) (ap (λ a. min k (least_key (faults_under v.stage room count a))) (sym q))
        go (test_seen q _) = absurd (omega arith)
        go (label_seen q _ _) = absurd (omega arith)
        go (bare_seen n _ _ _) = absurd (n (sym is_kind ∙ e))

    -- IF: a test, and the action behind `=>`
    pub record TestHere : Type 0 where
      pub view : ExpressionAt records values decls (at + 1) depth
      pub inside : (value : Value) → ExpressionAnswer view value → value.next < 8192
      pub goes_on : (value : Value) (k' : ℕ) → ExpressionAnswer view value → k' ≡ min k value.key → Ahead v room k' (value.next + 1) count

    pub ahead_test : c ≡ kind_no IF → TestHere
    unfolding action_faults faults_in
    ahead_test e = go seen
      where
        go : Seen → TestHere
        go (loop-seen q _) = absurd (omega arith)
        go (label_seen q _ _) = absurd (omega arith)
        go (bare_seen _ n _ _) = absurd (n (sym is_kind ∙ e))
        go (test_seen {x = x} {o = o} {t = t} {w = w} {b = b} _ q) = record {
          view = record {
            scene = scene_of v.stage;
            first = o;
            tail = t;
            next = tk Arrow w;
            rest = action_tokens b rest;
            reads = (here v.stage.tokens at _ _ (rw q at h.reads)).behind;
            ends = refl;
            shallow = let n = rw q at h.shallow in omega arith;
          };
          inside = λ value y. omega (arith, (here v.stage.tokens value.next _ _ y.behind).within, v.stage.ready.holds.few);
          goes_on = λ value k' y f.
              goes b (value.next + 1) k' (here v.stage.tokens value.next _ _ y.behind).behind (let p = y.past in omega arith)
              (let n = rw q at h.shallow in omega arith)
              (let whole = least_append key (judge (outer_of v.stage) (table_of v.stage) (expr_of o t)).faults (faults_under v.stage room count b) in
              omega (arith, f, y.weighs.key, whole, ap (λ a. least_key (faults_under v.stage room count a)) q));
        }

  -- a label: it stands around the action behind it
  module _ {t : Bool} (is_label : t ≡ label_at records at) where
    label_here : t ≡ true → NameAt v.stage.tokens at
    label_here e = label_name v.stage at within (sym is_label ∙ e)

    pub ahead_push : t ≡ true → 2 * index_end ≤ length room → NameView records room count at × (count < index_from)
    ahead_push e large = (name_view v.stage h.stacked (label_here e) large, let l = ahead_inside.1 in omega arith)

    pub ahead_label : t ≡ true → 2 * index_end ≤ length room → {room' : List ℕ} → Pushed records count at room room' → Ahead v room' k (at + 2) (count + 1)
    unfolding action_faults
    ahead_label e large {room'} p = go seen
      where
        go : Seen → Ahead v room' k (at + 2) (count + 1)
        go (loop-seen q _) = absurd (let z = eqb-true (kind_byte records at) 0 (both_true (eqb (kind_byte records at) 0) (eqb (kind_byte records (at + 1)) 12) (sym is_label ∙ e)).0 in omega arith)
        go (test_seen q _) = absurd (let z = eqb-true (kind_byte records at) 0 (both_true (eqb (kind_byte records at) 0) (eqb (kind_byte records (at + 1)) 12) (sym is_label ∙ e)).0 in omega arith)
        go (bare_seen _ _ n _) = absurd (n (sym is_label ∙ e))
        go (label_seen {n = n} {x = x} {b = b} _ _ q) =
            let reads = rw q at h.reads in
            let first = here v.stage.tokens at _ _ reads in
            let word : word_at v.stage.tokens at ≡ n.word = ap (λ (t : Token). t.info.word) first.token in
            record {
              action = b;
              reads = behind_far v.stage.tokens at _ reads 2;
              shallow = rw q at h.shallow;
              stacked = push_stacked p v.stage.tokens h.stacked (let l = ahead_inside.1 in omega arith) (label_here e);
              low = let l = h.low in omega arith;
              more = let l = h.more in omega arith;
              past = let l = h.past in omega arith;
              same_key =
                  ap (λ ws. min k (least_key (action_faults (outer_of v.stage) (table_of v.stage) ws b)))
                  (push_words p v.stage.tokens ∙ ap (λ w. w ∷ stacked_words v.stage.tokens room count) word)
                  ∙ ap (λ a. min k (least_key (faults_under v.stage room count a))) (sym q) ∙ h.same_key;
            }

    pub ahead_bare : {c : ℕ} → c ≡ kind_byte records at → (c ≡ kind_no REPEAT → ⊥) → (c ≡ kind_no IF → ⊥) → t ≡ false → Bare h.action
    ahead_bare is_kind r f e = go seen
      where
        go : Seen → Bare h.action
        go (loop-seen q _) = absurd (r (is_kind ∙ q))
        go (test_seen q _) = absurd (f (is_kind ∙ q))
        go (label_seen _ q _) = absurd (true≢false (sym q ∙ sym is_label ∙ e))
        go (bare_seen _ _ _ b) = b
