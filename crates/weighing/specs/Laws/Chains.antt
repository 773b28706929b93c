-- Laws of a chain of operators from left to right: those that wait are settled or stay, by how tightly the next one binds.
-- Assumes nothing.
use Rattle.std.specs.Prelude.{ℕ, ◌<◌, ◌≤◌, ◌≡◌, Bool, true, false, leb, length, get_or, set}
use Rattle.std.proofs.Math.Path.{refl, ap₂}
use Rattle.std.proofs.Common.{sym, ap, ◌∙◌, arith, get_or-set_same, get_or-set_other}
use mathlib.Core.List.{List, [], ◌∷◌}
use borrow.Author.Tests.{le-leb, lt-leb, leb-false}
use Rattle.rules.specs.Grammar.Trees.{Tokens, Operand, Tail}
use Rattle.rules.specs.Grammar.Precedence.{tightness, Expr, leaf, node, Factor, factor_of, links_of, expr_of}
use Rattle.rules.specs.Declarations.{Word, Table}
use Rattle.rules.specs.Faults.Bodies.{Judged, judge, judge_factor}
use Rattle.laws_grammar.specs.Cited.Shunting.{Waiting, combine, looser, settled}
use Rattle.laws_grammar.specs.Grammar.Shunting.{value_of, unwind, chain, chain_is}
use Rattle.table.specs.Laws.Operators.{tightness_range}
use Rattle.weighing.specs.Weights.{operated}
use Rattle.weighing.specs.Chains.{Wait, WaitsAt}

-- the rules' judgement is that of the chain
module _ (outer : Word) (ds : Table) where
  judge_value : (e : Expr) → value_of operated (judge_factor outer ds) e ≡ judge outer ds e
  unfolding judge value_of
  judge_value (leaf f) = refl
  judge_value (node o i l r) = ap₂ (operated o i) (judge_value l) (judge_value r)

  pub chain_judged : (o : Operand) (t : Tail) → chain operated (judge_factor outer ds) [] (judge_factor outer ds (factor_of o)) (links_of t) ≡ judge outer ds (expr_of o t)
  unfolding expr_of
  chain_judged o t = chain_is operated (judge_factor outer ds) (factor_of o) (links_of t) ∙ judge_value (expr_of o t)

-- they bind looser than n, each tighter than those below it
abbrev pub Under : ℕ → List (Waiting Judged) → Type 0
Under n [] = Unit {0}
Under n (w ∷ ws) = (tightness w.op < n) × Under (tightness w.op) ws

pub under_few : (n : ℕ) (ws : List (Waiting Judged)) → 0 < n → Under n ws → length ws < n
under_few n [] p u = p
under_few n (w ∷ ws) p u = let q = under_few (tightness w.op) ws (tightness_range w.op).0 u.1 in let l = u.0 in omega arith

-- a store above them leaves them
pub wait_set : (tokens : Tokens) (ats keys lengths : List ℕ) (n a k b : ℕ) (ws : List (Waiting Judged)) → length ws ≤ n
    → Wait tokens ats keys lengths ws → Wait tokens (set ats n a) (set keys n k) (set lengths n b) ws
wait_set tokens ats keys lengths n a k b [] h w = tt
wait_set tokens ats keys lengths n a k b (u ∷ us) h w =
    let other : (l : List ℕ) (x : ℕ) → get_or (set l n x) (length us) 0 ≡ get_or l (length us) 0 = λ l x. get_or-set_other l n (length us) x 0 (λ e. omega arith) in
    (rw (other ats a, other keys k, other lengths b) w.0, wait_set tokens ats keys lengths n a k b us (omega arith) w.1)

pub wait_push : (tokens : Tokens) (ats keys lengths : List ℕ) (n a k b : ℕ) (w : Waiting Judged) (ws : List (Waiting Judged)) → n ≡ length ws
    → n < length ats → n < length keys → n < length lengths → WaitsAt tokens a k b w → Wait tokens ats keys lengths ws
    → Wait tokens (set ats n a) (set keys n k) (set lengths n b) (w ∷ ws)
wait_push tokens ats keys lengths n a k b w ws e ha hk hb x y =
    let same : (l : List ℕ) (v : ℕ) → n < length l → get_or (set l n v) (length ws) 0 ≡ v = λ l v h. ap (λ i. get_or (set l n v) i 0) (sym e) ∙ get_or-set_same l n v 0 h in
    (rw (same ats a ha, same keys k hk, same lengths b hb) x, wait_set tokens ats keys lengths n a k b ws (omega arith) y)

by_test : (P : List (Waiting Judged) → Type 0) (t : Bool) {us vs : List (Waiting Judged)} → P us → (t ≡ false → P vs) → P (elim t [ true ↦ us | false ↦ vs ])
by_test P true a b = a
by_test P false a b = b refl

-- settling those that bind as tightly as n
module _ (operand : Factor → Judged) (n : ℕ) where
  module _ (w : Waiting Judged) (ws : List (Waiting Judged)) (v : Judged) where
    abbrev pub after : Judged
    after = combine operated operand w v

    pub looser_pass : n ≤ tightness w.op → looser operated operand n (w ∷ ws) v ≡ looser operated operand n ws after
    unfolding looser
    looser_pass h = rw (looser, le-leb n (tightness w.op) h)

    pub settled_pass : n ≤ tightness w.op → settled operated operand n (w ∷ ws) v ≡ settled operated operand n ws after
    unfolding settled
    settled_pass h = rw (settled, le-leb n (tightness w.op) h)

    pub looser_stop : tightness w.op < n → looser operated operand n (w ∷ ws) v ≡ w ∷ ws
    unfolding looser
    looser_stop h = rw (looser, lt-leb n (tightness w.op) h)

    pub settled_stop : tightness w.op < n → settled operated operand n (w ∷ ws) v ≡ v
    unfolding settled
    settled_stop h = rw (settled, lt-leb n (tightness w.op) h)

  -- what is left waits as before, and binds looser than n
  pub wait_looser : (tokens : Tokens) (ats keys lengths : List ℕ) (ws : List (Waiting Judged)) (v : Judged) → Wait tokens ats keys lengths ws
      → Wait tokens ats keys lengths (looser operated operand n ws v)
  unfolding looser
  wait_looser tokens ats keys lengths [] v h = tt
  wait_looser tokens ats keys lengths (w ∷ ws) v h =
      by_test (Wait tokens ats keys lengths) (leb n (tightness w.op)) (wait_looser tokens ats keys lengths ws (after w ws v) h.1) (λ e. h)

  pub under_looser : (m : ℕ) (ws : List (Waiting Judged)) (v : Judged) → Under m ws → Under n (looser operated operand n ws v)
  unfolding looser
  under_looser m [] v h = tt
  under_looser m (w ∷ ws) v h =
      by_test (Under n) (leb n (tightness w.op)) (under_looser (tightness w.op) ws (after w ws v) h.1)
      (λ e. (leb-false n (tightness w.op) e, h.1))

-- at the end all are settled
pub settled_all : (operand : Factor → Judged) (ws : List (Waiting Judged)) (v : Judged) → settled operated operand 0 ws v ≡ unwind operated operand ws v
unfolding settled unwind
settled_all operand [] v = refl
settled_all operand (w ∷ ws) v = settled_pass operand 0 w ws v (omega arith) ∙ settled_all operand ws (after operand 0 w ws v)
