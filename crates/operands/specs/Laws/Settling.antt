-- Laws of settling operators: what a turn of the loop keeps, and what is left where it ends.
-- Assumes nothing.
use Rattle.std.specs.Prelude.{ℕ, ◌-◌, ◌<◌, ◌≤◌, ◌≡◌, refl, List, [], ◌∷◌, get_or, set}
use Rattle.std.proofs.Common.{sym, ◌∙◌, subst, arith, get_or-set_same, get_or-set_other}
use Rattle.std.proofs.Math.Path.{ap}
use Rattle.std.proofs.Math.ListN.{length}
use Rattle.rules.specs.Text.Tokens.{op_kind, kind_no}
use Rattle.rules.specs.Grammar.Precedence.{tightness, Expr, leaf, node}
use Rattle.rules.specs.Values.{value, op_bits, op_number}
use Rattle.rules.specs.Limits.{most_bits}
use Rattle.rules.specs.Declarations.{Table}
use Rattle.rules.specs.Steps.Evaluation.{Carriers, gives, evaluate}
use Rattle.laws_grammar.specs.Cited.Shunting.{Waiting, looser, settled}
use Rattle.laws_accepted.specs.Cited.Lengths.{Sized}
use Rattle.values.specs.Operands.{Operands}
use Rattle.values.specs.Operators.{op_at}
use Rattle.values.specs.Laws.Operators.{op_at_kind}
use Rattle.table.specs.Operators.{tightness_at}
use Rattle.table.specs.Laws.Operators.{tightness_at_lem}
use Rattle.operands.specs.Laws.Waits.{looser_pass, settled_pass, looser_stop, settled_stop}
use Rattle.operands.specs.Trees.{Waits, tree_left, tree_settled}
use Rattle.operands.specs.Laws.Trees.{both, sized_settled, Given}
use Rattle.operands.specs.Laws.Worths.{tree_bits, node_comes, node_operands}
use Rattle.operands.specs.declared.operators.Pending.{Pending}
use Rattle.operands.specs.Settling.{nothing, Wait, WaitsAt, SettleAt, Settles}

module _ (ds : Table) (s : Carriers) where
  pub waits_given : (ps : List Pending) (ws : Waits) → Wait ds s ps ws → Given ds s ws
  waits_given ps [] h = tt
  waits_given ps (w ∷ ws) h = ((value _ _, h.0.left), waits_given ps ws h.1)

  -- a store above them leaves them
  module _ (ps : List Pending) (n : ℕ) (p : Pending) where
    wait_set : (ws : Waits) → length ws ≤ n → Wait ds s ps ws → Wait ds s (set ps n p) ws
    wait_set [] h w = tt
    wait_set (u ∷ us) h w =
        let other : get_or (set ps n p) (length us) nothing ≡ get_or ps (length us) nothing = get_or-set_other ps n (length us) p nothing (λ e. omega arith) in
        (rw other w.0, wait_set us (omega arith) w.1)

    pub wait_push : (w : Waiting Expr) (ws : Waits) → n ≡ length ws → n < length ps → WaitsAt ds s p w → Wait ds s ps ws → Wait ds s (set ps n p) (w ∷ ws)
    wait_push w ws e h x y =
        let same : get_or (set ps n p) (length ws) nothing ≡ p = ap (λ i. get_or (set ps n p) i nothing) (sym e) ∙ get_or-set_same ps n p nothing h in
        (rw same x, wait_set ws (omega arith) y)

-- on the way: settling the rest comes to the same
pub record Settling {ps : List Pending} {count₀ b₀ n₀ tight : ℕ} (v : SettleAt ps count₀ b₀ n₀ tight) (count b n : ℕ) : Type 0 where
  pub waits : Waits
  pub tree : Expr
  pub counts : count ≡ length waits
  pub few : count ≤ 5
  pub waiting : Wait v.table v.words ps waits
  pub comes : evaluate v.table v.words tree ≡ gives (value n b)
  pub sized : Sized v.outer v.table (tree_settled tight waits tree)
  pub same_left : tree_left tight waits tree ≡ tree_left tight v.waits v.tree
  pub same_settled : tree_settled tight waits tree ≡ tree_settled tight v.waits v.tree

none_wait : (ws : Waits) → length ws ≡ 0 → ws ≡ []
none_wait [] e = refl
none_wait (w ∷ ws) e = absurd (omega arith)

module _ {ps : List Pending} {count₀ b₀ n₀ tight : ℕ} (v : SettleAt ps count₀ b₀ n₀ tight) where
  pub settling : Settling v count₀ b₀ n₀
  settling = record {
    waits = v.waits;
    tree = v.tree;
    counts = v.counts;
    few = v.few;
    waiting = v.waiting;
    comes = v.comes;
    sized = v.sized;
    same_left = refl;
    same_settled = refl;
  }

module _ {ps : List Pending} {count₀ b₀ n₀ tight : ℕ} {v : SettleAt ps count₀ b₀ n₀ tight} {count b n : ℕ} (s : Settling v count b n) where
  -- the last that waits
  record Top : Type 0 where
    last : Waiting Expr
    below : Waits
    are : s.waits ≡ last ∷ below
    at : WaitsAt v.table v.words (get_or ps (count - 1) nothing) last
    waiting : Wait v.table v.words ps below

  top : 0 < count → Top
  top p = go s.waits refl s.counts s.waiting
    where
      go : (ws : Waits) → s.waits ≡ ws → count ≡ length ws → Wait v.table v.words ps ws → Top
      go [] e c w = absurd (omega arith)
      go (u ∷ us) e c w = let q : count - 1 ≡ length us = omega arith in record { last = u; below = us; are = e; at = rw q w.0; waiting = w.1 }

  pub settled_none : count ≡ 0 → Settles v 0 b n
  unfolding looser settled
  settled_none z =
      let e = none_wait s.waits (omega (arith, s.counts)) in
      record {
        left = sym z ∙ s.counts ∙ ap length (e ∙ ap (λ ws. tree_left tight ws s.tree) (sym e) ∙ s.same_left);
        comes = rw (sym s.same_settled ∙ ap (λ ws. tree_settled tight ws s.tree) e) s.comes;
      }

  -- the last is q
  module _ (p : 0 < count) {q : Pending} (is : q ≡ get_or ps (count - 1) nothing) where
    t : Top
    t = top p

    kind_is : q.op ≡ kind_no (op_kind t.last.op)
    kind_is = ap (λ (q : Pending). q.op) is ∙ t.at.kind

    op_is : op_at q.op ≡ t.last.op
    op_is = ap op_at kind_is ∙ op_at_kind t.last.op

    binds : tightness_at q.op ≡ tightness t.last.op
    binds = ap tightness_at kind_is ∙ tightness_at_lem t.last.op

    left_comes : evaluate v.table v.words t.last.left ≡ gives (value q.bits q.number)
    left_comes = t.at.left ∙ ap (λ (q : Pending). gives (value q.bits q.number)) (sym is)

    pub settled_stopped : tightness_at q.op < tight → {k : ℕ} → k ≡ count → Settles v k b n
    settled_stopped h {k} same =
        let l : tightness t.last.op < tight = omega (arith, binds) in
        record {
          left = same ∙ s.counts ∙ ap length (t.are ∙ sym (looser_stop node leaf tight t.last t.below s.tree l)
              ∙ ap (λ ws. tree_left tight ws s.tree) (sym t.are) ∙ s.same_left);
          comes = rw (sym s.same_settled ∙ ap (λ ws. tree_settled tight ws s.tree) t.are ∙ settled_stop node leaf tight t.last t.below s.tree l) s.comes;
        }

    module _ (h : tight ≤ tightness_at q.op) where
      passes : tight ≤ tightness t.last.op
      passes = omega (arith, binds)

      whole : tree_settled tight s.waits s.tree ≡ tree_settled tight t.below (both t.last s.tree)
      whole = ap (λ ws. tree_settled tight ws s.tree) t.are ∙ settled_pass node leaf tight t.last t.below s.tree passes

      both_sized : Sized v.outer v.table (tree_settled tight t.below (both t.last s.tree))
      both_sized = subst (Sized v.outer v.table) whole s.sized

      pub settle_operands : Operands (op_at q.op) q.bits q.number n b
      settle_operands =
          rw op_is (node_operands v.declares v.words t.last.op t.last.info t.last.left s.tree q.bits q.number n b left_comes s.comes
          (sized_settled v.outer v.table tight t.below (both t.last s.tree) both_sized))

      pub settle_lengths : (q.bits ≤ most_bits) × (n ≤ most_bits)
      settle_lengths =
          let z = sized_settled v.outer v.table tight t.below (both t.last s.tree) both_sized in (
            (tree_bits v.declares v.words t.last.left q.bits q.number z.1 left_comes).length.short,
            (tree_bits v.declares v.words s.tree n b z.2 s.comes).length.short,
          )

      pub settled_turn : {x l : ℕ} → x ≡ op_number (op_at q.op) q.bits q.number n b → l ≡ op_bits (op_at q.op) q.bits n → Settling v (count - 1) x l
      settled_turn {x} {l} ex el = record {
        waits = t.below;
        tree = both t.last s.tree;
        counts = omega (arith, s.counts, ap length t.are);
        few = omega (arith, s.few);
        waiting = t.waiting;
        comes = rw (ex ∙ ap (λ o. op_number o q.bits q.number n b) op_is, el ∙ ap (λ o. op_bits o q.bits n) op_is)
            (node_comes v.declares v.words t.last.op t.last.info t.last.left s.tree q.bits q.number n b left_comes s.comes);
        sized = both_sized;
        same_left = sym (looser_pass node leaf tight t.last t.below s.tree passes) ∙ ap (λ ws. tree_left tight ws s.tree) (sym t.are) ∙ s.same_left;
        same_settled = sym whole ∙ s.same_settled;
      }
