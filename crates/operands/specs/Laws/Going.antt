-- The loop over a chain: some operators wait, an operand is worked out, and the rest of the chain builds the tree on.
-- Assumes nothing.
use Rattle.std.specs.Prelude.{ℕ, ◌+◌, ◌-◌, ◌*◌, ◌<◌, ◌≤◌, ◌≡◌, refl, List, [], ◌∷◌, length, drop, Result, Ok, Err}
use Rattle.std.proofs.Common.{sym, ◌∙◌, arith}
use Rattle.std.proofs.Math.Path.{ap, subst}
use Rattle.std.proofs.Math.ListN.{length-set}
use Rattle.rules.specs.Limits.{most_tokens}
use Rattle.rules.specs.Grammar.Trees.{Tail, no_more, with_op, tail_tokens}
use Rattle.rules.specs.Grammar.Precedence.{tightness, Expr, leaf, node, factor_of, links_of, expr_of}
use Rattle.rules.specs.Values.{value}
use Rattle.rules.specs.Steps.Evaluation.{gives, evaluate}
use Rattle.laws_grammar.specs.Cited.Nesting.{tail_nest}
use Rattle.laws_grammar.specs.Grammar.Shunting.{waiting, chain}
use Rattle.laws_grammar.specs.Cited.Shunting.{looser, settled}
use Rattle.laws_accepted.specs.Cited.Lengths.{Sized, SizedFactor}
use Rattle.records.specs.Holds.{kind_byte}
use Rattle.operands.specs.declared.accesses.Outside.{Outside}
use Rattle.operands.specs.declared.expressions.Value.{Value as Worked}
use Rattle.table.specs.Operators.{tightness_at}
use Rattle.table.specs.Laws.Operators.{tightness_at_lem, tightness_range}
use Rattle.operands.specs.Scene.{words_of, OperandAt, OperandAnswer}
use Rattle.operands.specs.Laws.Scene.{OperandTold}
use Rattle.operands.specs.Laws.Waits.{Under, under_few, looser_all, under_looser, settled_all}
use Rattle.operands.specs.Trees.{Waits, tree_left, tree_settled}
use Rattle.operands.specs.Laws.Trees.{tree_of, tree_is, sized_parts, tree_faults}
use Rattle.operands.specs.declared.operators.Pending.{Pending}
use Rattle.operands.specs.Settling.{nothing, Wait, SettleAt, Settles, Waited}
use Rattle.operands.specs.Laws.Settling.{waits_given, wait_push}
use Rattle.operands.specs.Chains.{TailAt}
use Rattle.operands.specs.Laws.Chains.{tail_room, tail_small, tail_tight, tail_tight_lem, tail_over, Operator, tail_operator, OperandIn, operand_at, tail_at}
use Rattle.operands.specs.Laws.Expressions.{looked}
use Rattle.operands.specs.Expressions.{ChainAt, ChainAnswer}

module _ {records values carriers : List ℕ} {k a m b n p depth : ℕ} (v : ChainAt records values carriers k a m b n p depth) where
  abbrev pub whole : Expr
  whole = expr_of v.first (with_op v.op v.info v.right v.behind.tail)

  pub record Going (ps : List Pending) (count x l q : ℕ) : Type 0 where
    pub waits : Waits
    pub tree : Expr
    pub tail : Tail
    pub counts : count ≡ length waits
    pub room : length ps ≡ 5
    pub waiting : Wait v.scene.table (words_of v.scene) ps waits
    pub under : Under 6 waits
    pub comes : evaluate v.scene.table (words_of v.scene) tree ≡ gives (value l x)
    pub past : v.start < q
    pub reads : drop q v.scene.tokens ≡ tail_tokens tail (v.behind.next ∷ v.behind.rest)
    pub shallow : tail_nest tail ≤ depth
    pub builds : tree_of waits tree (links_of tail) ≡ whole

  -- at first one operator waits
  pub going : {count : ℕ} → count ≡ 1 → Going (record { op = k; number = a; bits = m } ∷ nothing ∷ nothing ∷ nothing ∷ nothing ∷ []) count b n p
  unfolding evaluate links_of chain looser settled
  going one = record {
    waits = waiting v.op v.info (leaf (factor_of v.first)) ∷ [];
    tree = leaf (factor_of v.right);
    tail = v.behind.tail;
    counts = one;
    room = refl;
    waiting = (record { kind = v.kind; left = v.left }, tt);
    under = (omega (arith, (tightness_range v.op).1), tt);
    comes = v.known;
    past = v.before;
    reads = v.behind.reads;
    shallow = v.shallow;
    builds = tree_is v.first (with_op v.op v.info v.right v.behind.tail);
  }

-- a turn, with the invariant as the loop has it
module _ {records values carriers : List ℕ} {k a m b n p depth : ℕ} {ps : List Pending} {count x l q : ℕ}
    (told_going : (v : ChainAt records values carriers k a m b n p depth) → Going v ps count x l q)
    (v : ChainAt records values carriers k a m b n p depth) where
  g : Going v ps count x l q
  g = told_going v

  abbrev tail_here : TailAt v.scene q
  tail_here = record { tail = g.tail; next = v.behind.next; rest = v.behind.rest; reads = g.reads; ends = v.behind.ends }

  pub going_room : 8 * q + 8 ≤ length records
  going_room = tail_room tail_here

  pub going_small : q < most_tokens
  going_small = tail_small tail_here

  -- how tightly the token q binds
  module _ {c tight : ℕ} (is : c ≡ kind_byte records q) (told : tight ≡ tightness_at c) where
    binds : tight ≡ tightness_at (kind_byte records q)
    binds = looked is told

    -- whatever is to be settled is a part of the (whole v)
    settled_sized : Sized v.scene.outer v.scene.table (tree_settled tight g.waits g.tree)
    unfolding links_of chain
    settled_sized = go g.tail (binds ∙ tail_tight_lem tail_here) (subst (Sized v.scene.outer v.scene.table) (sym g.builds) v.sized)
      where
        go : (t : Tail) → tight ≡ tail_tight t → Sized v.scene.outer v.scene.table (tree_of g.waits g.tree (links_of t))
            → Sized v.scene.outer v.scene.table (tree_settled tight g.waits g.tree)
        go no_more e q = subst (Sized v.scene.outer v.scene.table) (sym (ap (λ n. tree_settled n g.waits g.tree) e ∙ settled_all node leaf g.waits g.tree)) q
        go (with_op op i o t) e q =
            subst (λ n. Sized v.scene.outer v.scene.table (tree_settled n g.waits g.tree)) (sym e)
            (sized_parts v.scene.outer v.scene.table (links_of t)
            (waiting op i (tree_settled (tightness op) g.waits g.tree) ∷ tree_left (tightness op) g.waits g.tree) (leaf (factor_of o)) q).0.0

    pub settle_at : SettleAt ps count x l tight
    settle_at = record {
      outer = v.scene.outer;
      table = v.scene.table;
      declares = v.scene.declares;
      words = words_of v.scene;
      waits = g.waits;
      tree = g.tree;
      counts = g.counts;
      few = omega (arith, g.counts, under_few 6 g.waits (omega arith) g.under);
      waiting = g.waiting;
      comes = g.comes;
      sized = settled_sized;
    }

    -- what is told of settling them
    abbrev SettlesTold : ℕ → ℕ → ℕ → Type 0
    SettlesTold count' x' l' = (a : SettleAt ps count x l tight) → Settles a count' x' l'

    pub going_ends : tight ≡ 0 → {count' x' l' : ℕ} → SettlesTold count' x' l' → ChainAnswer v (Ok (record { number = x'; bits = l'; next = q }))
    unfolding links_of chain settle_at
    going_ends z f =
        let r = f settle_at in
        let e = tail_over tail_here (sym binds ∙ z) in
        let all : tree_settled tight g.waits g.tree ≡ (whole v)
        = ap (λ n. tree_settled n g.waits g.tree) z
        ∙ settled_all node leaf g.waits g.tree
        ∙ ap (λ t. tree_of g.waits g.tree (links_of t)) (sym e)
        ∙ g.builds in
        record {
          comes = ap (evaluate v.scene.table (words_of v.scene)) (sym all) ∙ r.comes;
          past = g.past;
          behind = g.reads ∙ ap (λ t. tail_tokens t (v.behind.next ∷ v.behind.rest)) e;
        }

    -- an operator follows
    module _ (nz : tight ≡ 0 → ⊥) where
      o : Operator tail_here
      o = tail_operator tail_here (λ z. nz (binds ∙ z))

      tight_is : tight ≡ tightness o.op
      tight_is = binds ∙ ap tightness_at o.kind ∙ tightness_at_lem o.op

      abbrev waits_next : Waits
      waits_next = waiting o.op o.info (tree_settled tight g.waits g.tree) ∷ tree_left tight g.waits g.tree

      next_builds : tree_of waits_next (leaf (factor_of o.right)) (links_of o.more) ≡ (whole v)
      unfolding links_of chain
      next_builds =
          ap (λ n. tree_of (waiting o.op o.info (tree_settled n g.waits g.tree) ∷ tree_left n g.waits g.tree) (leaf (factor_of o.right)) (links_of o.more)) tight_is
          ∙ ap (λ t. tree_of g.waits g.tree (links_of t)) (sym o.are)
          ∙ g.builds

      next_sized : SizedFactor v.scene.outer v.scene.table (factor_of o.right)
      next_sized =
          (sized_parts v.scene.outer v.scene.table (links_of o.more) waits_next (leaf (factor_of o.right))
          (subst (Sized v.scene.outer v.scene.table) (sym next_builds) v.sized)).1

      left_waits : Wait v.scene.table (words_of v.scene) ps (tree_left tight g.waits g.tree)
      left_waits =
          looser_all node leaf tight (Wait v.scene.table (words_of v.scene) ps) (λ w ws h. h.1) g.waits g.tree g.waiting

      left_under : Under (tightness o.op) (tree_left tight g.waits g.tree)
      left_under = subst (λ n. Under n (tree_left tight g.waits g.tree)) tight_is (under_looser node leaf tight 6 g.waits g.tree g.under)

      next_in : OperandIn v.scene (q + 1) depth
      next_in = record {
        operand = o.right;
        tail = o.more;
        next = v.behind.next;
        rest = v.behind.rest;
        reads = o.behind;
        ends = v.behind.ends;
        shallow = omega (arith, g.shallow, ap tail_nest o.are);
        sized = next_sized;
      }

      pub next_operand : OperandAt records values carriers (q + 1) depth
      next_operand = operand_at next_in

      -- it comes to a value
      module _ {r : Result Worked Outside} {w : Worked} (h : OperandTold records values carriers (q + 1) depth r) (e : r ≡ Ok w) where
        next_known : OperandAnswer (operand_at next_in) (Ok w)
        next_known = subst (OperandAnswer (operand_at next_in)) e (h (operand_at next_in))

        pub going_falls : length records - w.next < length records - q
        going_falls = omega (arith, next_known.past, going_room)

      module _ {count' x' l' : ℕ} (f : SettlesTold count' x' l') where
        it_settles : Settles settle_at count' x' l'
        it_settles = f settle_at

        pub slot : count' < 5
        unfolding settle_at
        slot =
            omega (arith, it_settles.left, under_few (tightness o.op) (tree_left tight g.waits g.tree) (tightness_range o.op).0 left_under, (tightness_range o.op).1)

        pub going_faults : {a : Result Worked Outside} {y : Outside} → OperandTold records values carriers (q + 1) depth a → a ≡ Err y → ChainAnswer v (Err y)
        unfolding evaluate settle_at next_in
        going_faults {a} {y} h e =
            ap (evaluate v.scene.table (words_of v.scene)) (sym next_builds)
            ∙ tree_faults v.scene.table (words_of v.scene) 70 y.place (links_of o.more) waits_next (leaf (factor_of o.right))
            ((value l' x', it_settles.comes), waits_given v.scene.table (words_of v.scene) ps (tree_left tight g.waits g.tree) left_waits)
            (subst (OperandAnswer (operand_at next_in)) e (h (operand_at next_in)))

        pub going_turn : {ps' : List Pending} → Waited ps count' x' l' c ps' → {a : Result Worked Outside} {u : Worked}
            → OperandTold records values carriers (q + 1) depth a → a ≡ Ok u
            → Going v ps' (count' + 1) u.number u.bits u.next
        unfolding evaluate settle_at next_in tail_at
        going_turn w {a} {u} h e = rw w.is (record {
          waits = waits_next;
          tree = leaf (factor_of o.right);
          tail = o.more;
          counts = omega (arith, it_settles.left);
          room = length-set ps count' _ ∙ g.room;
          waiting =
              wait_push v.scene.table (words_of v.scene) ps count' (record { op = c; number = x'; bits = l' }) _ (tree_left tight g.waits g.tree) it_settles.left
              (omega (arith, slot, g.room)) (record { kind = is ∙ o.kind; left = it_settles.comes }) left_waits;
          under = (omega (arith, (tightness_range o.op).1), left_under);
          comes = (next_known h e).comes;
          past = omega (arith, g.past, (next_known h e).past);
          reads = (tail_at next_in (next_known h e)).reads;
          shallow = omega (arith, g.shallow, ap tail_nest o.are);
          builds = next_builds;
        })
