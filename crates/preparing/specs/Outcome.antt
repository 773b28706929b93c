-- What a run comes to: the numbers of a result that Run may give, and the carriers that it leaves.
use Rattle.std.specs.Prelude.{ℕ, ◌≡◌, List}
use Rattle.rules.specs.Answers.{Result, Runs, result_numbers}
use Rattle.rules.specs.Calls.Run.{carriers_left}
use Rattle.lent.specs.Numbers.{numbers_of}
use Rattle.lent.specs.declared.answers.Answer.{Answer}

pub record Outcome (text carriers : List ℕ) (budget : ℕ) (left : List ℕ) (a : Answer) : Type 0 where
  pub result : Result
  pub runs : Runs text carriers budget result
  pub is : numbers_of a ≡ result_numbers text result
  pub left_is : left ≡ carriers_left carriers result
