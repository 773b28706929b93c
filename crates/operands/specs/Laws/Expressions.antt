-- Laws of an expression of one operand, of two, and of the chain of more.
-- Assumes nothing.
use Rattle.std.specs.Prelude.{ℕ, ◌+◌, ◌*◌, ◌<◌, ◌≤◌, ◌≡◌, refl, length, Result, Ok, Err}
use Rattle.std.proofs.Common.{sym, ◌∙◌, arith}
use Rattle.std.proofs.Math.Path.{ap, ap₂, subst}
use mathlib.Core.List.{List, [], ◌∷◌}
use Rattle.rules.specs.Text.Tokens.{Info, Op, op_kind, kind_no}
use Rattle.rules.specs.Grammar.Trees.{Operand, Tail, no_more, with_op, tail_tokens}
use Rattle.rules.specs.Grammar.Precedence.{leaf, node, factor_of, links_of, inserts, insert, arrange, expr_of}
use Rattle.rules.specs.Values.{value, op_bits, op_number}
use Rattle.rules.specs.Limits.{most_bits, most_tokens}
use Rattle.rules.specs.Steps.Evaluation.{gives, faulty, evaluate, evaluate_factor}
use Rattle.laws_grammar.specs.Cited.Nesting.{tail_nest}
use Rattle.laws_grammar.specs.Grammar.Shunting.{waiting, chain}
use Rattle.laws_grammar.specs.Cited.Shunting.{looser, settled}
use Rattle.laws_accepted.specs.Cited.Lengths.{Sized, SizedFactor}
use Rattle.records.specs.Holds.{kind_byte}
use Rattle.table.specs.Laws.Positions.{here, kind_here, record_within}
use Rattle.values.specs.Operands.{Operands}
use Rattle.values.specs.Operators.{op_at}
use Rattle.values.specs.Laws.Operators.{op_at_kind}
use Rattle.operands.specs.declared.accesses.Outside.{Outside}
use Rattle.operands.specs.declared.expressions.Value.{Value as Worked}
use Rattle.table.specs.Operators.{tightness_at}
use Rattle.operands.specs.Scene.{Scene, words_of, ExpressionAt, ExpressionAnswer, OperandAt, OperandAnswer}
use Rattle.operands.specs.Laws.Scene.{OperandTold}
use Rattle.operands.specs.Laws.Trees.{tree_is, sized_parts, tree_faults}
use Rattle.operands.specs.Laws.Worths.{factor_bits, node_comes, node_operands}
use Rattle.operands.specs.Laws.Chains.{tail_room, tail_over, Operator, tail_operator, OperandIn, operand_at, tail_at}
use Rattle.operands.specs.Expressions.{PairAt, PairAnswer, ChainAt, ChainAnswer}

-- an operand is one without operators
one_operand : (o : Operand) → expr_of o no_more ≡ leaf (factor_of o)
unfolding expr_of arrange links_of inserts
one_operand o = refl

-- and two operands with one
two_operands : (o : Operand) (op : Op) (i : Info) (r : Operand) → expr_of o (with_op op i r no_more) ≡ node op i (leaf (factor_of o)) (leaf (factor_of r))
unfolding expr_of arrange links_of inserts insert
two_operands o op i r = refl

module _ {records values carriers : List ℕ} (s : Scene records values carriers) where
  -- the operands of a sound expression are sound
  pub first_sized : (o : Operand) (t : Tail) → Sized s.outer s.table (expr_of o t) → SizedFactor s.outer s.table (factor_of o)
  first_sized o t q =
      (sized_parts s.outer s.table (links_of t) [] (leaf (factor_of o)) (subst (Sized s.outer s.table) (sym (tree_is o t)) q)).1

  pub second_sized : (o : Operand) (op : Op) (i : Info) (r : Operand) (t : Tail) → Sized s.outer s.table (expr_of o (with_op op i r t))
      → SizedFactor s.outer s.table (factor_of r)
  unfolding links_of chain looser settled
  second_sized o op i r t q =
      (sized_parts s.outer s.table (links_of t) (waiting op i (leaf (factor_of o)) ∷ []) (leaf (factor_of r))
      (subst (Sized s.outer s.table) (sym (tree_is o (with_op op i r t))) q)).1

  -- a fault of the first operand, or of the second behind a first that comes to a value, is the expression's
  pub first_faults : (o : Operand) (t : Tail) (p : ℕ) → evaluate_factor s.table (words_of s) (factor_of o) ≡ faulty 70 p
      → evaluate s.table (words_of s) (expr_of o t) ≡ faulty 70 p
  unfolding evaluate
  first_faults o t p e =
      ap (evaluate s.table (words_of s)) (sym (tree_is o t)) ∙ tree_faults s.table (words_of s) 70 p (links_of t) [] (leaf (factor_of o)) tt e

  pub second_faults : (o : Operand) (op : Op) (i : Info) (r : Operand) (t : Tail) (m a p : ℕ)
      → evaluate_factor s.table (words_of s) (factor_of o) ≡ gives (value m a) → evaluate_factor s.table (words_of s) (factor_of r) ≡ faulty 70 p
      → evaluate s.table (words_of s) (expr_of o (with_op op i r t)) ≡ faulty 70 p
  unfolding evaluate links_of chain looser settled
  second_faults o op i r t m a p l e =
      ap (evaluate s.table (words_of s)) (sym (tree_is o (with_op op i r t)))
      ∙ tree_faults s.table (words_of s) 70 p (links_of t) (waiting op i (leaf (factor_of o)) ∷ []) (leaf (factor_of r)) ((value m a, l), tt) e

-- how tightly the token that the code has looked at binds
module _ {k t b : ℕ} (is : k ≡ b) (binds : t ≡ tightness_at k) where
  pub looked : t ≡ tightness_at b
  looked = binds ∙ ap tightness_at is

-- the first operand
module _ {records values carriers : List ℕ} {i depth : ℕ} (v : ExpressionAt records values carriers i depth) where
  abbrev first_in_lem : OperandIn v.scene i depth
  first_in_lem = record {
    operand = v.first;
    tail = v.tail;
    next = v.next;
    rest = v.rest;
    reads = v.reads;
    ends = v.ends;
    shallow = omega (arith, v.shallow);
    sized = first_sized v.scene v.first v.tail v.sized;
  }

  pub first_operand : OperandAt records values carriers i depth
  first_operand = operand_at first_in_lem

  pub expression_faults : {r : Result Worked Outside} {o : Outside} → OperandTold records values carriers i depth r → r ≡ Err o → ExpressionAnswer v (Err o)
  expression_faults {r} {o} f e = first_faults v.scene v.first v.tail o.place (subst (OperandAnswer (operand_at first_in_lem)) e (f (operand_at first_in_lem)))

  module _ {r : Result Worked Outside} {w : Worked} (f : OperandTold records values carriers i depth r) (e : r ≡ Ok w) where
    first_known : OperandAnswer (operand_at first_in_lem) (Ok w)
    first_known = subst (OperandAnswer (operand_at first_in_lem)) e (f (operand_at first_in_lem))

    pub first_room : 8 * w.next + 8 ≤ length records
    first_room = tail_room (tail_at first_in_lem first_known)

    module _ {k t : ℕ} (is : k ≡ kind_byte records w.next) (binds : t ≡ tightness_at k) where
      -- no operator stands behind it
      pub expression_single : t ≡ 0 → ExpressionAnswer v (Ok w)
      unfolding evaluate tail_at
      expression_single z =
          let over = tail_over (tail_at first_in_lem first_known) (sym (looked is binds) ∙ z) in
          record {
            comes = ap (λ t. evaluate v.scene.table (words_of v.scene) (expr_of v.first t)) over
                ∙ ap (evaluate v.scene.table (words_of v.scene)) (one_operand v.first) ∙ first_known.comes;
            past = first_known.past;
            behind = (tail_at first_in_lem first_known).reads ∙ ap (λ t. tail_tokens t (v.next ∷ v.rest)) over;
          }

      -- one does
      module _ (nz : t ≡ 0 → ⊥) where
        o : Operator (tail_at first_in_lem first_known)
        o = tail_operator (tail_at first_in_lem first_known) (λ z. nz (looked is binds ∙ z))

        pub pair_at : PairAt records values carriers w.number w.bits w.next depth
        unfolding tail_at
        pair_at = record {
          scene = v.scene;
          first = v.first;
          op = o.op;
          info = o.info;
          right = o.right;
          more = o.more;
          next = v.next;
          rest = v.rest;
          reads = (tail_at first_in_lem first_known).reads ∙ ap (λ t. tail_tokens t (v.next ∷ v.rest)) o.are;
          ends = v.ends;
          shallow = omega (arith, v.shallow, ap tail_nest o.are);
          sized = subst (λ t. Sized v.scene.outer v.scene.table (expr_of v.first t)) o.are v.sized;
          left = first_known.comes;
        }

        pub pair_answers : (q : Result Worked Outside) → ((x : PairAt records values carriers w.number w.bits w.next depth) → PairAnswer x q) → ExpressionAnswer v q
        unfolding pair_at tail_at
        pair_answers q g = by q (g pair_at)
          where
            same : evaluate v.scene.table (words_of v.scene) (expr_of v.first v.tail)
                ≡ evaluate v.scene.table (words_of v.scene) (expr_of v.first (with_op o.op o.info o.right o.more))
            same = ap (λ t. evaluate v.scene.table (words_of v.scene) (expr_of v.first t)) o.are

            by : (q : Result Worked Outside) → PairAnswer pair_at q → ExpressionAnswer v q
            by (Ok u) a = record { comes = same ∙ a.comes; past = omega (arith, first_known.past, a.past); behind = a.behind }
            by (Err y) a = same ∙ a

-- the second operand
module _ {records values carriers : List ℕ} {a m at depth : ℕ} (v : PairAt records values carriers a m at depth) where
  operator_here : kind_byte records at ≡ kind_no (op_kind v.op)
  operator_here = let h = here v.scene.tokens at _ _ v.reads in kind_here v.scene.holds at _ h.within h.token

  pub operator_room : 8 * at + 8 ≤ length records
  operator_room = record_within v.scene.holds at (here v.scene.tokens at _ _ v.reads).within

  pub operator_small : at < most_tokens
  operator_small = omega (arith, (here v.scene.tokens at _ _ v.reads).within, v.scene.holds.few)

  abbrev second_in : OperandIn v.scene (at + 1) depth
  second_in = record {
    operand = v.right;
    tail = v.more;
    next = v.next;
    rest = v.rest;
    reads = (here v.scene.tokens at _ _ v.reads).behind;
    ends = v.ends;
    shallow = omega (arith, v.shallow);
    sized = second_sized v.scene v.first v.op v.info v.right v.more v.sized;
  }

  pub second_operand : OperandAt records values carriers (at + 1) depth
  second_operand = operand_at second_in

  pub pair_faults : {r : Result Worked Outside} {o : Outside} → OperandTold records values carriers (at + 1) depth r → r ≡ Err o → PairAnswer v (Err o)
  pair_faults {r} {o} f e =
      second_faults v.scene v.first v.op v.info v.right v.more m a o.place v.left (subst (OperandAnswer (operand_at second_in)) e (f (operand_at second_in)))

  module _ {r : Result Worked Outside} {w : Worked} (f : OperandTold records values carriers (at + 1) depth r) (e : r ≡ Ok w) where
    second_known : OperandAnswer (operand_at second_in) (Ok w)
    second_known = subst (OperandAnswer (operand_at second_in)) e (f (operand_at second_in))

    pub second_room : 8 * w.next + 8 ≤ length records
    second_room = tail_room (tail_at second_in second_known)

    module _ {op : ℕ} (here_op : op ≡ kind_byte records at) where
      op_is : op_at op ≡ v.op
      op_is = ap op_at (here_op ∙ operator_here) ∙ op_at_kind v.op

      -- no more follows
      module _ {k t : ℕ} (is : k ≡ kind_byte records w.next) (binds : t ≡ tightness_at k) (z : t ≡ 0) where
        more_none : v.more ≡ no_more
        unfolding tail_at
        more_none = tail_over (tail_at second_in second_known) (sym (looked is binds) ∙ z)

        alone : expr_of v.first (with_op v.op v.info v.right v.more) ≡ node v.op v.info (leaf (factor_of v.first)) (leaf (factor_of v.right))
        alone = ap (λ t. expr_of v.first (with_op v.op v.info v.right t)) more_none ∙ two_operands v.first v.op v.info v.right

        alone_sized : Sized v.scene.outer v.scene.table (node v.op v.info (leaf (factor_of v.first)) (leaf (factor_of v.right)))
        alone_sized = subst (Sized v.scene.outer v.scene.table) alone v.sized

        pub pair_operands : Operands (op_at op) m a w.bits w.number
        unfolding evaluate
        pair_operands =
            rw op_is (node_operands v.scene.declares (words_of v.scene) v.op v.info (leaf (factor_of v.first)) (leaf (factor_of v.right)) m a w.bits w.number
            v.left second_known.comes alone_sized)

        pub pair_lengths : (m ≤ most_bits) × (w.bits ≤ most_bits)
        pair_lengths = (
          (factor_bits v.scene.declares (words_of v.scene) (factor_of v.first) m a alone_sized.1 v.left).length.short,
          (factor_bits v.scene.declares (words_of v.scene) (factor_of v.right) w.bits w.number alone_sized.2 second_known.comes).length.short,
        )

        pub pair_answer : {x l : ℕ} → x ≡ op_number (op_at op) m a w.bits w.number → l ≡ op_bits (op_at op) m w.bits
            → PairAnswer v (Ok (record { number = x; bits = l; next = w.next }))
        unfolding evaluate tail_at
        pair_answer {x} {l} ex el = record {
          comes = ap (evaluate v.scene.table (words_of v.scene)) alone
              ∙ node_comes v.scene.declares (words_of v.scene) v.op v.info (leaf (factor_of v.first)) (leaf (factor_of v.right)) m a w.bits w.number v.left second_known.comes
              ∙ ap₂ (λ l x. gives (value l x)) (sym (el ∙ ap (λ o. op_bits o m w.bits) op_is)) (sym (ex ∙ ap (λ o. op_number o m a w.bits w.number) op_is));
          past = omega (arith, second_known.past);
          behind = (tail_at second_in second_known).reads ∙ ap (λ t. tail_tokens t (v.next ∷ v.rest)) more_none;
        }

      -- more follows
      pub chain_at : ChainAt records values carriers op a m w.number w.bits w.next depth
      unfolding tail_at
      chain_at = record {
        scene = v.scene;
        first = v.first;
        op = v.op;
        info = v.info;
        right = v.right;
        behind = tail_at second_in second_known;
        start = at;
        before = omega (arith, second_known.past);
        kind = here_op ∙ operator_here;
        shallow = omega (arith, v.shallow);
        sized = v.sized;
        left = v.left;
        known = second_known.comes;
      }

      pub chain_answers : (q : Result Worked Outside) → ((x : ChainAt records values carriers op a m w.number w.bits w.next depth) → ChainAnswer x q) → PairAnswer v q
      unfolding chain_at tail_at
      chain_answers q g = g chain_at
