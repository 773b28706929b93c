-- What two texts come to: the numbers of a result that the rules allow, and the table that is left.
use Rattle.std.specs.Prelude.{ℕ, ◌%◌, ◌≡◌, List, [], ◌∷◌}
use Rattle.rules.specs.Calls.Memory.{number_bytes}
use Rattle.rules.specs.Pair.{Paired, Pairs}
use Rattle.rules.specs.Calls.Pair.{pair_number, pair_numbers, table_left}
use Rattle.lent.specs.Numbers.{numbers_of}
use Rattle.lent.specs.declared.answers.Answer.{Answer}

-- 81 with the low 32 bits of its offset
abbrev pub BadTurn : ℕ → ℕ → Answer → Type 0
BadTurn offset side a = numbers_of a ≡ 4 ∷ 81 ∷ offset % 4294967296 ∷ 0 ∷ side ∷ 0 ∷ 1 ∷ 1 ∷ []

-- The numbers are those of a result. They are compared by their bytes: the offset of a bad turn may have more than 32 bits.
pub record Tells (first second : List ℕ) (x : Paired) (a : Answer) : Type 0 where
  pub is : number_bytes (numbers_of a) ≡ number_bytes (pair_numbers first second x)
  pub number : a.number ≡ pair_number x

pub record Outcome (first second carriers turns : List ℕ) (budget : ℕ) (left : List ℕ) (a : Answer) : Type 0 where
  pub result : Paired
  pub pairs : Pairs first second carriers turns budget result
  pub tells : Tells first second result a
  pub left_is : left ≡ table_left carriers result
