-- Working out a chain from left to right, without its tree: operators that bind looser wait, each with its left operand. It comes to what the tree
-- by precedence does, whatever is worked out.
use Rattle.std.specs.Prelude.{◌≡◌, Bool, ℕ, suc, ◌≤◌, ◌<◌}
use Rattle.std.proofs.Math.Path.{refl, ap, ap₂}
use Rattle.std.proofs.Common.{sym, ◌∙◌, le-leb}
use Rattle.std.proofs.Math.Bool.{true, false}
use mathlib.Core.List.{List, [], ◌∷◌}
use native.Mathlib.Omega.{arith}
use Rattle.std.proofs.Math.Decide.{dec_lt}
use Rattle.std.proofs.lemmas.Bool.{lt-leb}
use Rattle.rules.specs.Text.Tokens.{Info, Op}
use Rattle.rules.specs.Grammar.Precedence.{tightness, Expr, leaf, node, Factor, Link, insert_by, insert, inserts, arrange}
use Rattle.laws_grammar.specs.Grammar.Tight.{Tight}
use Rattle.laws_grammar.specs.Grammar.Precedence.{insert_tight}
use Rattle.laws_grammar.specs.Cited.Shunting.{Waiting, combine, settled, looser}

abbrev pub waiting : {W : Type 0} → Op → Info → W → Waiting W
waiting o i l = record { op = o; info = i; left = l }

module _ {W : Type 0} (operator : Op → Info → W → W → W) (operand : Factor → W) where
  -- by the tree
  unfoldable pub value_of : Expr → W
  value_of (leaf f) = operand f
  value_of (node o i l r) = operator o i (value_of l) (value_of r)

  -- all that wait, the last first
  unfoldable pub unwind : List (Waiting W) → W → W
  unwind [] v = v
  unwind (w ∷ ws) v = unwind ws (combine operator operand w v)

  -- from left to right
  unfoldable pub chain : List (Waiting W) → W → List Link → W
  chain ws v [] = unwind ws v
  chain ws v (k ∷ ks) =
      chain (waiting k.op k.info (settled operator operand (tightness k.op) ws v) ∷ looser operator operand (tightness k.op) ws v) (operand k.factor) ks

  -- the right edge of a tree, in front of what waits already, and its last operand
  abbrev edge : Expr → List (Waiting W) → List (Waiting W)
  edge (leaf f) ws = ws
  edge (node o i l r) ws = edge r (waiting o i (value_of l) ∷ ws)

  abbrev last : Expr → W
  last (leaf f) = operand f
  last (node o i l r) = last r

  unwind_edge : (e : Expr) (ws : List (Waiting W)) → unwind (edge e ws) (last e) ≡ unwind ws (value_of e)
  unfolding unwind value_of
  unwind_edge (leaf f) ws = refl
  unwind_edge (node o i l r) ws = unwind_edge r (waiting o i (value_of l) ∷ ws)

  -- a tree whose operators are all as tight as n is settled as a whole
  module _ (n : ℕ) where
    settled_tight : (w : Waiting W) (ws : List (Waiting W)) (v : W) → n ≤ tightness w.op → settled operator operand n (w ∷ ws) v ≡ settled operator operand n ws (combine operator operand w v)
    unfolding settled
    settled_tight w ws v h = ap (λ (b : Bool). elim b [ true ↦ settled operator operand n ws (combine operator operand w v) | false ↦ v ]) (le-leb n (tightness w.op) h)

    looser_tight : (w : Waiting W) (ws : List (Waiting W)) (v : W) → n ≤ tightness w.op → looser operator operand n (w ∷ ws) v ≡ looser operator operand n ws (combine operator operand w v)
    unfolding looser
    looser_tight w ws v h = ap (λ (b : Bool). elim b [ true ↦ looser operator operand n ws (combine operator operand w v) | false ↦ w ∷ ws ]) (le-leb n (tightness w.op) h)

    settled_edge : (m : ℕ) (e : Expr) (ws : List (Waiting W)) → n ≤ m → Tight m e → settled operator operand n (edge e ws) (last e) ≡ settled operator operand n ws (value_of e)
    unfolding value_of
    settled_edge m (leaf f) ws h t = refl
    settled_edge m (node o i l r) ws h t =
        let g = t.0 in
        settled_edge (suc (tightness o)) r (waiting o i (value_of l) ∷ ws) (omega arith) t.1.1 ∙ settled_tight (waiting o i (value_of l)) ws (value_of r) (omega arith)

    looser_edge : (m : ℕ) (e : Expr) (ws : List (Waiting W)) → n ≤ m → Tight m e → looser operator operand n (edge e ws) (last e) ≡ looser operator operand n ws (value_of e)
    unfolding value_of
    looser_edge m (leaf f) ws h t = refl
    looser_edge m (node o i l r) ws h t =
        let g = t.0 in
        looser_edge (suc (tightness o)) r (waiting o i (value_of l) ∷ ws) (omega arith) t.1.1 ∙ looser_tight (waiting o i (value_of l)) ws (value_of r) (omega arith)

    -- what waits in front binds looser
    abbrev Loose : List (Waiting W) → Type 0
    Loose [] = Unit {0}
    Loose (w ∷ ws) = tightness w.op < n

    settled_loose : (ws : List (Waiting W)) (v : W) → Loose ws → settled operator operand n ws v ≡ v
    unfolding settled
    settled_loose [] v h = refl
    settled_loose (w ∷ ws) v h = ap (λ (b : Bool). elim b [ true ↦ settled operator operand n ws (combine operator operand w v) | false ↦ v ]) (lt-leb n (tightness w.op) h)

    looser_loose : (ws : List (Waiting W)) (v : W) → Loose ws → looser operator operand n ws v ≡ ws
    unfolding looser
    looser_loose [] v h = refl
    looser_loose (w ∷ ws) v h = ap (λ (b : Bool). elim b [ true ↦ looser operator operand n ws (combine operator operand w v) | false ↦ w ∷ ws ]) (lt-leb n (tightness w.op) h)

  -- one more link: its operator waits in front of what is looser
  abbrev Next : Expr → Link → List (Waiting W) → List (Waiting W) → Type 0
  Next e k ws us = us ≡ waiting k.op k.info (settled operator operand (tightness k.op) (edge e ws) (last e)) ∷ looser operator operand (tightness k.op) (edge e ws) (last e)

  module _ (k : Link) where
    on_top : (m : ℕ) (e : Expr) (ws : List (Waiting W)) → tightness k.op ≤ m → Tight m e → Loose (tightness k.op) ws
        → Next e k ws (waiting k.op k.info (value_of e) ∷ ws)
    on_top m e ws h t l =
        let n = tightness k.op in
        ap₂ (λ v us. waiting k.op k.info v ∷ us) (sym (settled_edge n m e ws h t ∙ settled_loose n ws (value_of e) l))
        (sym (looser_edge n m e ws h t ∙ looser_loose n ws (value_of e) l))

    edge_by : (m : ℕ) (o : Op) (i : Info) (a b : Expr) (ws : List (Waiting W)) → Tight m (node o i a b) → Loose (tightness k.op) ws
        → (tightness o < tightness k.op → Next b k (waiting o i (value_of a) ∷ ws) (edge (insert b k) (waiting o i (value_of a) ∷ ws)))
        → (d : Dec (tightness o < tightness k.op))
        → Next (node o i a b) k ws (edge (insert_by d (node o i a (insert b k)) (node k.op k.info (node o i a b) (leaf k.factor))) ws)
    unfolding insert_by
    edge_by m o i a b ws t l inner (yes h) = inner h
    edge_by m o i a b ws t l inner (no h) = on_top (tightness o) (node o i a b) ws (omega arith) (omega arith, t.1) l

    edge_insert : (m : ℕ) (e : Expr) (ws : List (Waiting W)) → Tight m e → Loose (tightness k.op) ws → Next e k ws (edge (insert e k) ws)
    unfolding insert
    edge_insert m (leaf f) ws t l = on_top (tightness k.op) (leaf f) ws (omega arith) tt l
    edge_insert m (node o i a b) ws t l =
        edge_by m o i a b ws t l (λ h. edge_insert (suc (tightness o)) b (waiting o i (value_of a) ∷ ws) t.1.1 h) (dec_lt (tightness o) (tightness k.op))

    last_by : {P : Type 0} (d : Dec P) (a b : Expr) (v : W) → last a ≡ v → last b ≡ v → last (insert_by d a b) ≡ v
    unfolding insert_by
    last_by (yes _) a b v p q = p
    last_by (no _) a b v p q = q

    last_insert : (e : Expr) → last (insert e k) ≡ operand k.factor
    unfolding insert
    last_insert (leaf f) = refl
    last_insert (node o i a b) = last_by (dec_lt (tightness o) (tightness k.op)) _ _ (operand k.factor) (last_insert b) refl

  chain_inserts : (e : Expr) (ks : List Link) → Tight 0 e → chain (edge e []) (last e) ks ≡ value_of (inserts e ks)
  unfolding chain inserts unwind
  chain_inserts e [] t = unwind_edge e []
  chain_inserts e (k ∷ ks) t =
      ap₂ (λ us v. chain us v ks) (sym (edge_insert k 0 e [] t tt)) (sym (last_insert k e))
      ∙ chain_inserts (insert e k) ks (insert_tight 0 e k (omega arith) t)

  -- CHAIN: from left to right comes to the value of the tree
  pub chain_is : (f : Factor) (ks : List Link) → chain [] (operand f) ks ≡ value_of (arrange f ks)
  unfolding arrange
  chain_is f ks = chain_inserts (leaf f) ks tt
