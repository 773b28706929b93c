-- The operators of a chain that wait, each with its left operand, and how the next one settles them.
use Rattle.std.specs.Prelude.{true, false, List, [], ◌∷◌, ℕ, leb}
use Rattle.rules.specs.Text.Tokens.{Info, Op}
use Rattle.rules.specs.Grammar.Precedence.{tightness, Factor}

-- an operator with its left operand
pub record Waiting (W : Type 0) : Type 0 where
  pub op : Op
  pub info : Info
  pub left : W

module _ {W : Type 0} (operator : Op → Info → W → W → W) (operand : Factor → W) where
  abbrev pub combine : Waiting W → W → W
  combine w v = operator w.op w.info w.left v

  -- those that bind as tightly as n come first: what still waits then, and the value
  unfoldable pub looser : ℕ → List (Waiting W) → W → List (Waiting W)
  looser n [] v = []
  looser n (w ∷ ws) v = elim (leb n (tightness w.op)) [ true ↦ looser n ws (combine w v) | false ↦ w ∷ ws ]

  unfoldable pub settled : ℕ → List (Waiting W) → W → W
  settled n [] v = v
  settled n (w ∷ ws) v = elim (leb n (tightness w.op)) [ true ↦ settled n ws (combine w v) | false ↦ v ]
