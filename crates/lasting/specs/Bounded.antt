-- What the longest run comes to: the numbers of a bound that a text may be given.
use Rattle.std.specs.Prelude.{ℕ, ◌≡◌, List}
use Rattle.rules.specs.Bound.{Bound, Bounds}
use Rattle.rules.specs.Calls.Bound.{bound_numbers}
use Rattle.lent.specs.Numbers.{numbers_of}
use Rattle.lent.specs.declared.answers.Answer.{Answer}

pub record Told (text : List ℕ) (a : Answer) : Type 0 where
  pub bound : Bound
  pub bounds : Bounds text bound
  pub is : numbers_of a ≡ bound_numbers text bound
