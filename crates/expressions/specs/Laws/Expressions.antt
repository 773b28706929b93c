-- An expression as a loop over its operators: what stands so far, and what is left of the tree.
-- Assumes nothing.
use Rattle.std.specs.Prelude.{ℕ, ◌+◌, ◌*◌, ◌<◌, ◌≤◌, ◌≡◌, refl, true, List, [], ◌∷◌, length, set, drop}
use Rattle.std.proofs.Common.{sym, ◌∙◌, arith}
use Rattle.std.proofs.Math.Path.{ap}
use Rattle.rules.specs.Text.Tokens.{Info, Token, tk, Op, op_kind, kind_no}
use Rattle.rules.specs.Grammar.Trees.{Tokens, Operand, operand_tokens, Tail, no_more, with_op, tail_tokens}
use Rattle.rules.specs.Grammar.Precedence.{tightness, Factor, factor_of, links_of, expr_of}
use Rattle.rules.specs.Faults.Bodies.{Judged, judge, judge_factor}
use Rattle.laws_grammar.specs.Cited.Nesting.{operand_nest, tail_nest}
use Rattle.laws_grammar.specs.Cited.Shunting.{Waiting, looser, settled}
use Rattle.laws_grammar.specs.Grammar.Shunting.{waiting, chain}
use Rattle.records.specs.Holds.{kind_byte}
use Rattle.table.specs.Laws.Positions.{Here, here, kind_here, record_within}
use Rattle.accesses.specs.declared.Judged.{Judged as Answer}
use Rattle.table.specs.Operators.{tightness_at, ends_access, ends_expression}
use Rattle.table.specs.Laws.Operators.{tightness_at_lem, tightness_range, no_operator, ends_access_lem, operator_ends}
use Rattle.weighing.specs.Weights.{Weighs, operated}
use Rattle.accesses.specs.Scene.{outer_of, table_of, Answers}
use Rattle.expressions.specs.Expressions.{ExpressionAt, OperandAt, OperandAnswer}
use Rattle.weighing.specs.Chains.{Wait}
use Rattle.weighing.specs.Laws.Chains.{Under, under_few, wait_push, wait_looser, under_looser, settled_all, chain_judged}
use Rattle.weighing.specs.Settling.{SettleAt, Settles}

-- the token behind an operand of a chain: the next operator, or what ends the expression
record Behind (t : Tail) (ts : Tokens) : Type 0 where
  next : Token
  rest : Tokens
  reads : tail_tokens t ts ≡ next ∷ rest
  ends : ends_access next.kind ≡ true

behind : (t : Tail) (n : Token) (ts : Tokens) → ends_expression n.kind ≡ true → Behind t (n ∷ ts)
behind no_more n ts e = record { next = n; rest = ts; reads = refl; ends = ends_access_lem n.kind e }
behind (with_op op i o t) n ts e = record { next = tk (op_kind op) i; rest = operand_tokens o (tail_tokens t (n ∷ ts)); reads = refl; ends = operator_ends op }

module _ {records values decls : List ℕ} {i depth : ℕ} (v : ExpressionAt records values decls i depth) where
  abbrev pub judged_operand : Factor → Judged
  judged_operand = judge_factor (outer_of v.scene) (table_of v.scene)

  -- an operand of the chain, with the tail behind it
  operand_at : (p : ℕ) (o : Operand) (t : Tail) → drop p v.scene.tokens ≡ operand_tokens o (tail_tokens t (v.next ∷ v.rest)) → operand_nest o ≤ depth
      → OperandAt records values decls p depth
  operand_at p o t e h =
      let b = behind t v.next v.rest v.ends in
      record { scene = v.scene; operand = o; next = b.next; rest = b.rest; reads = e ∙ ap (operand_tokens o) b.reads; ends = b.ends; shallow = h }

  pub first_operand : OperandAt records values decls i depth
  first_operand = operand_at i v.first v.tail v.reads (let h = v.shallow in omega arith)

  -- operators wait, an operand is judged, and the rest of the tree stands from p on: worked out, they come to the whole
  pub record Going (ats keys lengths : List ℕ) (count k n p : ℕ) : Type 0 where
    pub waits : List (Waiting Judged)
    pub value : Judged
    pub tail : Tail
    pub counts : count ≡ length waits
    pub waiting : Wait v.scene.tokens ats keys lengths waits
    pub under : Under 6 waits
    pub weighs : Weighs k n value
    pub past : i < p
    pub reads : drop p v.scene.tokens ≡ tail_tokens tail (v.next ∷ v.rest)
    pub shallow : tail_nest tail ≤ depth
    pub comes : chain operated judged_operand waits value (links_of tail) ≡ judge (outer_of v.scene) (table_of v.scene) (expr_of v.first v.tail)

  operand_read : (t : Tail) {p : ℕ} {j : Judged} {r : Answer} → let b = behind t v.next v.rest v.ends in
      Answers v.scene.tokens (b.next ∷ b.rest) p j r → drop r.next v.scene.tokens ≡ tail_tokens t (v.next ∷ v.rest)
  operand_read t a = a.behind ∙ sym (behind t v.next v.rest v.ends).reads

  pub begun : {ats keys lengths : List ℕ} {r : Answer} → OperandAnswer first_operand r → Going ats keys lengths 0 r.key r.bits r.next
  unfolding first_operand operand_at
  begun a = record {
    waits = [];
    value = judged_operand (factor_of v.first);
    tail = v.tail;
    counts = refl;
    waiting = tt;
    under = tt;
    weighs = a.weighs;
    past = a.past;
    reads = operand_read v.tail a;
    shallow = let h = v.shallow in omega arith;
    comes = chain_judged (outer_of v.scene) (table_of v.scene) v.first v.tail;
  }

  module _ {ats keys lengths : List ℕ} {count k n p : ℕ} (g : Going ats keys lengths count k n p) where
    abbrev pub settle_at : SettleAt records ats keys lengths count k n
    settle_at = record {
      text = v.scene.text;
      values = values;
      tokens = v.scene.tokens;
      holds = v.scene.ready.holds;
      waits = g.waits;
      value = g.value;
      counts = g.counts;
      few = omega (arith, g.counts, under_few 6 g.waits (omega arith) g.under);
      waiting = g.waiting;
      weighs = g.weighs;
    }

    -- the token p: an operator with the rest of the chain, or the end
    pub record Operator (tight : ℕ) : Type 0 where
      pub op : Op
      pub info : Info
      pub right : Operand
      pub more : Tail
      pub are : g.tail ≡ with_op op info right more
      pub binds : tight ≡ tightness op
      pub token : Here v.scene.tokens p (tk (op_kind op) info) (operand_tokens right (tail_tokens more (v.next ∷ v.rest)))

    pub token_within : p < length v.scene.tokens
    token_within = go g.tail g.reads
      where
        go : (t : Tail) → drop p v.scene.tokens ≡ tail_tokens t (v.next ∷ v.rest) → p < length v.scene.tokens
        go no_more e = (here _ p _ _ e).within
        go (with_op op j o t) e = (here _ p _ _ e).within

    pub token_room : 8 * p + 8 ≤ length records
    token_room = record_within v.scene.ready.holds p token_within

    token_kind : (t : Token) (ts : Tokens) → drop p v.scene.tokens ≡ t ∷ ts → kind_byte records p ≡ kind_no t.kind
    token_kind t ts e = kind_here v.scene.ready.holds p t (here _ p t ts e).within (here _ p t ts e).token

    pub goes_on : {tight : ℕ} → tight ≡ tightness_at (kind_byte records p) → (tight ≡ 0 → ⊥) → Operator tight
    goes_on {tight} b nz = go g.tail refl g.reads
      where
        go : (t : Tail) → g.tail ≡ t → drop p v.scene.tokens ≡ tail_tokens t (v.next ∷ v.rest) → Operator tight
        go no_more q e = absurd (nz (b ∙ ap tightness_at (token_kind _ _ e) ∙ no_operator v.next.kind v.ends))
        go (with_op op j o t) q e = record {
          op = op;
          info = j;
          right = o;
          more = t;
          are = q;
          binds = b ∙ ap tightness_at (token_kind _ _ e) ∙ tightness_at_lem op;
          token = here _ p _ _ e;
        }

    over : {tight : ℕ} → tight ≡ tightness_at (kind_byte records p) → tight ≡ 0 → g.tail ≡ no_more
    over {tight} b z = go g.tail g.reads
      where
        go : (t : Tail) → drop p v.scene.tokens ≡ tail_tokens t (v.next ∷ v.rest) → t ≡ no_more
        go no_more e = refl
        go (with_op op j o t) e =
            let q : tight ≡ tightness op = b ∙ ap tightness_at (token_kind _ _ e) ∙ tightness_at_lem op in
            absurd (omega (arith, (tightness_range op).0))

    pub ended : {tight count' k' n' : ℕ} → tight ≡ tightness_at (kind_byte records p) → tight ≡ 0
        → Settles judged_operand tight g.waits g.value count' k' n'
        → Answers v.scene.tokens (v.next ∷ v.rest) i (judge (outer_of v.scene) (table_of v.scene) (expr_of v.first v.tail))
        (record { key = k'; bits = n'; next = p })
    unfolding chain links_of
    ended b z s =
        let e = over b z in
        let all : settled operated judged_operand _ g.waits g.value ≡ judge (outer_of v.scene) (table_of v.scene) (expr_of v.first v.tail)
        = ap (λ t. settled operated judged_operand t g.waits g.value) z
        ∙ settled_all judged_operand g.waits g.value
        ∙ ap (λ t. chain operated judged_operand g.waits g.value (links_of t)) (sym e)
        ∙ g.comes in
        record { weighs = rw (sym all) s.weighs; past = g.past; behind = g.reads ∙ ap (λ t. tail_tokens t (v.next ∷ v.rest)) e }

    module _ {tight count' k' n' : ℕ} (o : Operator tight) (s : Settles judged_operand tight g.waits g.value count' k' n') where
      left_under : Under (tightness o.op) (looser operated judged_operand tight g.waits g.value)
      left_under = rw (sym o.binds) (under_looser judged_operand tight 6 g.waits g.value g.under)

      pub slot : count' < 5
      slot = omega (arith, s.left, under_few (tightness o.op) (looser operated judged_operand tight g.waits g.value) (tightness_range o.op).0 left_under, (tightness_range o.op).1)

      pub next_operand : OperandAt records values decls (p + 1) depth
      next_operand = operand_at (p + 1) o.right o.more o.token.behind (let h = g.shallow in omega (arith, ap tail_nest o.are))

      pub turn : length ats ≡ 5 → length keys ≡ 5 → length lengths ≡ 5 → {r : Answer} → OperandAnswer next_operand r
          → Going (set ats count' p) (set keys count' k') (set lengths count' n') (count' + 1) r.key r.bits r.next
      unfolding chain links_of next_operand operand_at
      turn la lk ll {r} a =
          let c = slot in
          let ws = looser operated judged_operand tight g.waits g.value in
          record {
            waits = waiting o.op o.info (settled operated judged_operand tight g.waits g.value) ∷ ws;
            value = judged_operand (factor_of o.right);
            tail = o.more;
            counts = omega (arith, s.left);
            waiting =
                wait_push v.scene.tokens ats keys lengths count' p k' n' _ ws s.left (omega arith) (omega arith) (omega arith)
                (record { within = o.token.within; here = o.token.token; left = s.weighs })
                (wait_looser judged_operand tight v.scene.tokens ats keys lengths g.waits g.value g.waiting);
            under = (omega (arith, (tightness_range o.op).1), left_under);
            weighs = a.weighs;
            past = let q = a.past in let h = g.past in omega arith;
            reads = operand_read o.more a;
            shallow = let h = g.shallow in omega (arith, ap tail_nest o.are);
            comes = ap (λ t. chain operated judged_operand (waiting o.op o.info (settled operated judged_operand t g.waits g.value) ∷ looser operated judged_operand t g.waits g.value) (judged_operand (factor_of o.right)) (links_of o.more)) o.binds
                ∙ ap (λ t. chain operated judged_operand g.waits g.value (links_of t)) (sym o.are)
                ∙ g.comes;
          }
