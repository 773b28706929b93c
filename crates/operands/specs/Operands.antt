-- An operand that is neither an access nor a constant.
use Rattle.std.specs.Prelude.{ℕ, ◌≡◌, List}
use Rattle.rules.specs.Text.Tokens.{Name, Const, kind_no}
use Rattle.records.specs.Holds.{kind_byte}
use Rattle.operands.specs.Scene.{OperandAt}

-- an operand that is neither an access nor a constant
pub record NestedAt (records values carriers : List ℕ) (i depth : ℕ) : Type 0 where
  pub view : OperandAt records values carriers i depth
  pub no_name : kind_byte records i ≡ kind_no Name → ⊥
  pub no_constant : kind_byte records i ≡ kind_no Const → ⊥
