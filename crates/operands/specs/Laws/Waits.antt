-- Operators that wait, whatever their operands are: what settling does to them, and how many they are.
-- Assumes nothing.
use Rattle.std.specs.Prelude.{ℕ, ◌<◌, ◌≤◌, ◌≡◌, Bool, true, false, leb, length}
use Rattle.std.proofs.Math.Path.{refl}
use Rattle.std.proofs.Common.{◌∙◌, arith}
use mathlib.Core.List.{List, [], ◌∷◌}
use borrow.Author.Tests.{le-leb, lt-leb, leb-false}
use Rattle.rules.specs.Text.Tokens.{Info, Op}
use Rattle.rules.specs.Grammar.Precedence.{tightness, Factor}
use Rattle.laws_grammar.specs.Cited.Shunting.{Waiting, combine, looser, settled}
use Rattle.laws_grammar.specs.Grammar.Shunting.{unwind}
use Rattle.table.specs.Laws.Operators.{tightness_range}

module _ {W : Type 0} where
  -- they bind looser than n, each tighter than those below it
  abbrev pub Under : ℕ → List (Waiting W) → Type 0
  Under n [] = Unit {0}
  Under n (w ∷ ws) = (tightness w.op < n) × Under (tightness w.op) ws

  pub under_few : (n : ℕ) (ws : List (Waiting W)) → 0 < n → Under n ws → length ws < n
  under_few n [] p u = p
  under_few n (w ∷ ws) p u = let q = under_few (tightness w.op) ws (tightness_range w.op).0 u.1 in let l = u.0 in omega arith

  by_test : (P : List (Waiting W) → Type 0) (t : Bool) {us vs : List (Waiting W)} → P us → (t ≡ false → P vs) → P (elim t [ true ↦ us | false ↦ vs ])
  by_test P true a b = a
  by_test P false a b = b refl

  module _ (operator : Op → Info → W → W → W) (operand : Factor → W) where
    -- settling those that bind as tightly as n
    module _ (n : ℕ) where
      module _ (w : Waiting W) (ws : List (Waiting W)) (v : W) where
        pub looser_pass : n ≤ tightness w.op → looser operator operand n (w ∷ ws) v ≡ looser operator operand n ws (combine operator operand w v)
        unfolding looser
        looser_pass h = rw (looser, le-leb n (tightness w.op) h)

        pub settled_pass : n ≤ tightness w.op → settled operator operand n (w ∷ ws) v ≡ settled operator operand n ws (combine operator operand w v)
        unfolding settled
        settled_pass h = rw (settled, le-leb n (tightness w.op) h)

        pub looser_stop : tightness w.op < n → looser operator operand n (w ∷ ws) v ≡ w ∷ ws
        unfolding looser
        looser_stop h = rw (looser, lt-leb n (tightness w.op) h)

        pub settled_stop : tightness w.op < n → settled operator operand n (w ∷ ws) v ≡ v
        unfolding settled
        settled_stop h = rw (settled, lt-leb n (tightness w.op) h)

      -- what holds of all that wait holds of those that are left
      pub looser_all : (P : List (Waiting W) → Type 0) → ((w : Waiting W) (ws : List (Waiting W)) → P (w ∷ ws) → P ws)
          → (ws : List (Waiting W)) (v : W) → P ws → P (looser operator operand n ws v)
      unfolding looser
      looser_all P below [] v h = h
      looser_all P below (w ∷ ws) v h =
          by_test P (leb n (tightness w.op)) (looser_all P below ws (combine operator operand w v) (below w ws h)) (λ e. h)

      -- they bind looser than n
      pub under_looser : (m : ℕ) (ws : List (Waiting W)) (v : W) → Under m ws → Under n (looser operator operand n ws v)
      unfolding looser
      under_looser m [] v h = tt
      under_looser m (w ∷ ws) v h =
          by_test (Under n) (leb n (tightness w.op)) (under_looser (tightness w.op) ws (combine operator operand w v) h.1)
          (λ e. (leb-false n (tightness w.op) e, h.1))

    -- at the end all are settled
    pub settled_all : (ws : List (Waiting W)) (v : W) → settled operator operand 0 ws v ≡ unwind operator operand ws v
    unfolding settled unwind
    settled_all [] v = refl
    settled_all (w ∷ ws) v = settled_pass 0 w ws v (omega arith) ∙ settled_all ws (combine operator operand w v)
