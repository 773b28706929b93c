-- An expression that is sound: it has from 1 to 64 bits, and so has every operand in it; every access reaches bits inside a word of 64.
use Rattle.std.specs.Prelude.{ℕ, ◌+◌, ◌≤◌, ◌≡◌, true}
use Rattle.std.proofs.Math.Option.{some}
use Rattle.rules.specs.Text.Tokens.{Info, Op}
use Rattle.rules.specs.Grammar.Trees.{Bits}
use Rattle.rules.specs.Grammar.Precedence.{Expr, leaf, node, Factor, number, cell, group, inverse, Index, no_index, index}
use Rattle.rules.specs.Values.{op_bits}
use Rattle.rules.specs.Limits.{most_bits}
use Rattle.rules.specs.Declarations.{Word, Table, Reach, reach, access_low, access_bits}
use Rattle.rules.specs.Faults.Bodies.{subscripted, judge_access, judge, judge_factor}
use Rattle.laws_accepted.specs.Cited.Declared.{Length}
use Rattle.laws_accepted.specs.Cited.Constants.{InBits}

-- an access with this subscript and these bits of what is reached, judged to have n bits: a subscript is there exactly if there are words
pub record Fitting (r : Reach) (x : Index) (b : Bits) (n : ℕ) : Type 0 where
  pub subscripts : subscripted r.words x ≡ true
  pub size : n ≡ access_bits r b
  pub length : Length (access_bits r b)
  pub fits : access_low r b + access_bits r b ≤ most_bits

module _ (outer : Word) (ds : Table) where
  -- what an access reaches
  pub record Reaches (i : Info) (x : Index) (b : Bits) : Type 0 where
    pub reached : Reach
    pub found : reach ds i.word ≡ some reached
    pub fitting : Fitting reached x b (judge_access outer ds i x b).bits

  -- the result of an operator
  pub record Operated (o : Op) (i : Info) (l r : Expr) : Type 0 where
    pub size : (judge outer ds (node o i l r)).bits ≡ op_bits o (judge outer ds l).bits (judge outer ds r).bits
    pub length : Length (op_bits o (judge outer ds l).bits (judge outer ds r).bits)

  -- in an expression, every constant, access and operator is so
  abbrev mutual
    pub Sized : Expr → Type 0
    Sized (leaf f) = SizedFactor f
    Sized (node o i l r) = Operated o i l r × Sized l × Sized r

    pub SizedFactor : Factor → Type 0
    SizedFactor (number i) = InBits i.bits i.value
    SizedFactor (cell i x b) = ((judge_factor outer ds (cell i x b)).bits ≡ (judge_access outer ds i x b).bits) × Reaches i x b × SizedIndex x
    SizedFactor (group l e r) = Sized e
    SizedFactor (inverse i f) = SizedFactor f

    pub SizedIndex : Index → Type 0
    SizedIndex no_index = Unit {0}
    SizedIndex (index l e r) = Sized e
