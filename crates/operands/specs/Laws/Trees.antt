-- Working out a chain builds its tree: every operand that waits is a part of it. So each is sound if the tree is, and the first fault of an operand is the
-- tree's.
-- Assumes nothing.
use Rattle.std.specs.Prelude.{ℕ, ◌≡◌, refl, Bool, ◌⊎◌, leb}
use Rattle.std.proofs.Math.Path.{ap}
use Rattle.std.proofs.Common.{ap₂, ◌∙◌, inl, inr}
use Rattle.std.proofs.Math.Bool.{true, false}
use mathlib.Core.List.{List, [], ◌∷◌}
use Rattle.rules.specs.Text.Tokens.{Info, Op}
use Rattle.rules.specs.Grammar.Trees.{Operand, Tail}
use Rattle.rules.specs.Grammar.Precedence.{tightness, Expr, leaf, node, Link, factor_of, links_of, expr_of}
use Rattle.rules.specs.Values.{Value, operate}
use Rattle.rules.specs.Declarations.{Word, Table}
use Rattle.rules.specs.Steps.Evaluation.{Carriers, Outcome, gives, faulty, then, evaluate}
use Rattle.laws_grammar.specs.Cited.Shunting.{Waiting, looser, settled}
use Rattle.laws_grammar.specs.Grammar.Shunting.{waiting, value_of, unwind, chain, chain_is}
use Rattle.laws_accepted.specs.Cited.Lengths.{Sized}
use Rattle.operands.specs.Trees.{Waits, tree_settled, tree_left}

abbrev pub tree_of : Waits → Expr → List Link → Expr
tree_of = chain node leaf

-- an operator that waits, with its right operand
abbrev pub both : Waiting Expr → Expr → Expr
both w e = node w.op w.info w.left e

tree_value : (e : Expr) → value_of node leaf e ≡ e
unfolding value_of
tree_value (leaf f) = refl
tree_value (node o i l r) = ap₂ (node o i) (tree_value l) (tree_value r)

pub tree_is : (o : Operand) (t : Tail) → tree_of [] (leaf (factor_of o)) (links_of t) ≡ expr_of o t
unfolding expr_of
tree_is o t = chain_is node leaf (factor_of o) (links_of t) ∙ tree_value (expr_of o t)

-- what waits is sound if the tree is
module _ (outer : Word) (ds : Table) where
  abbrev pub AllSized : Waits → Type 0
  AllSized [] = Unit {0}
  AllSized (w ∷ ws) = Sized outer ds w.left × AllSized ws

  pub sized_settled : (n : ℕ) (ws : Waits) (e : Expr) → Sized outer ds (tree_settled n ws e) → Sized outer ds e
  unfolding settled
  sized_settled n [] e q = q
  sized_settled n (w ∷ ws) e q = by (leb n (tightness w.op)) (sized_settled n ws (both w e)) q
    where
      by : (t : Bool) → (Sized outer ds (tree_settled n ws (both w e)) → Sized outer ds (both w e))
          → Sized outer ds (elim t [ true ↦ tree_settled n ws (both w e) | false ↦ e ]) → Sized outer ds e
      by true under q = (under q).2
      by false under q = q

  sized_left : (n : ℕ) (ws : Waits) (e : Expr) → Sized outer ds (tree_settled n ws e) → AllSized (tree_left n ws e) → AllSized ws × Sized outer ds e
  unfolding settled looser
  sized_left n [] e q p = (tt, q)
  sized_left n (w ∷ ws) e q p = by (leb n (tightness w.op)) (sized_left n ws (both w e)) q p
    where
      by : (t : Bool) → (Sized outer ds (tree_settled n ws (both w e)) → AllSized (tree_left n ws (both w e)) → AllSized ws × Sized outer ds (both w e))
          → Sized outer ds (elim t [ true ↦ tree_settled n ws (both w e) | false ↦ e ]) → AllSized (elim t [ true ↦ tree_left n ws (both w e) | false ↦ w ∷ ws ])
          → AllSized (w ∷ ws) × Sized outer ds e
      by true under q p = let r = under q p in ((r.1.1, r.0), r.1.2)
      by false under q p = (p, q)

  sized_unwind : (ws : Waits) (e : Expr) → Sized outer ds (unwind node leaf ws e) → AllSized ws × Sized outer ds e
  unfolding unwind
  sized_unwind [] e q = (tt, q)
  sized_unwind (w ∷ ws) e q = let r = sized_unwind ws (both w e) q in ((r.1.1, r.0), r.1.2)

  pub sized_parts : (ks : List Link) (ws : Waits) (e : Expr) → Sized outer ds (tree_of ws e ks) → AllSized ws × Sized outer ds e
  unfolding chain
  sized_parts [] ws e q = sized_unwind ws e q
  sized_parts (k ∷ ks) ws e q =
      let n = tightness k.op in
      let r = sized_parts ks (waiting k.op k.info (tree_settled n ws e) ∷ tree_left n ws e) (leaf k.factor) q in
      sized_left n ws e r.0.0 r.0.1

-- the first fault is the tree's: it lies in the last operand or in one that waits, and in no other before it
module _ (ds : Table) (s : Carriers) where
  abbrev pub Given : Waits → Type 0
  Given [] = Unit {0}
  Given (w ∷ ws) = ((v : Value) × (evaluate ds s w.left ≡ gives v)) × Given ws

  module _ (m p : ℕ) where
    abbrev Stuck : Waits → Type 0
    Stuck [] = ⊥
    Stuck (w ∷ ws) = ((evaluate ds s w.left ≡ faulty m p) × Given ws) ⊎ Stuck ws

    abbrev Lost : Waits → Expr → Type 0
    Lost ws e = ((evaluate ds s e ≡ faulty m p) × Given ws) ⊎ Stuck ws

    left_lost : (o : Op) (i : Info) (l r : Expr) → evaluate ds s l ≡ faulty m p → evaluate ds s (node o i l r) ≡ faulty m p
    unfolding evaluate then
    left_lost o i l r e = ap (λ (x : Outcome Value). then x (λ x. then (evaluate ds s r) (λ y. gives (operate o x y)))) e

    right_lost : (o : Op) (i : Info) (l r : Expr) (v : Value) → evaluate ds s l ≡ gives v → evaluate ds s r ≡ faulty m p → evaluate ds s (node o i l r) ≡ faulty m p
    unfolding evaluate then
    right_lost o i l r v e f =
        ap (λ (x : Outcome Value). then x (λ x. then (evaluate ds s r) (λ y. gives (operate o x y)))) e
        ∙ ap (λ (y : Outcome Value). then y (λ y. gives (operate o v y))) f

    -- an operator and its operands
    joined_lost : (w : Waiting Expr) (ws : Waits) (e : Expr) → Lost (w ∷ ws) e → Lost ws (both w e)
    joined_lost w ws e (inl (f, (g, gs))) = inl (right_lost w.op w.info w.left e g.0 g.1 f, gs)
    joined_lost w ws e (inr (inl (f, gs))) = inl (left_lost w.op w.info w.left e f, gs)
    joined_lost w ws e (inr (inr q)) = inr q

    unwind_lost : (ws : Waits) (e : Expr) → Lost ws e → evaluate ds s (unwind node leaf ws e) ≡ faulty m p
    unfolding unwind
    unwind_lost [] e (inl (f, g)) = f
    unwind_lost [] e (inr q) = absurd q
    unwind_lost (w ∷ ws) e l = unwind_lost ws (both w e) (joined_lost w ws e l)

    settled_lost : (n : ℕ) (ws : Waits) (e : Expr) → Lost ws e → Lost (tree_left n ws e) (tree_settled n ws e)
    unfolding settled looser
    settled_lost n [] e l = l
    settled_lost n (w ∷ ws) e l = by (leb n (tightness w.op)) (settled_lost n ws (both w e) (joined_lost w ws e l))
      where
        by : (t : Bool) → Lost (tree_left n ws (both w e)) (tree_settled n ws (both w e))
            → Lost (elim t [ true ↦ tree_left n ws (both w e) | false ↦ w ∷ ws ]) (elim t [ true ↦ tree_settled n ws (both w e) | false ↦ e ])
        by true q = q
        by false q = l

    tree_lost : (ks : List Link) (ws : Waits) (e : Expr) → Lost ws e → evaluate ds s (tree_of ws e ks) ≡ faulty m p
    unfolding chain
    tree_lost [] ws e l = unwind_lost ws e l
    tree_lost (k ∷ ks) ws e l =
        let n = tightness k.op in
        tree_lost ks (waiting k.op k.info (tree_settled n ws e) ∷ tree_left n ws e) (leaf k.factor) (inr (settled_lost n ws e l))

    -- the last operand faults
    pub tree_faults : (ks : List Link) (ws : Waits) (e : Expr) → Given ws → evaluate ds s e ≡ faulty m p → evaluate ds s (tree_of ws e ks) ≡ faulty m p
    tree_faults ks ws e g f = tree_lost ks ws e (inl (f, g))
