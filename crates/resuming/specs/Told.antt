-- What a profile comes to: the numbers of an answer that the call may give.
use Rattle.std.specs.Prelude.{ℕ, ◌≡◌, List}
use Rattle.rules.specs.Paths.{Profile, ProfileAnswers}
use Rattle.rules.specs.Calls.Profile.{profile_numbers}
use Rattle.lent.specs.Numbers.{numbers_of}
use Rattle.lent.specs.declared.answers.Answer.{Answer}

pub record Told (text test output : List ℕ) (a : Answer) : Type 0 where
  pub profile : Profile
  pub answers : ProfileAnswers text test output profile
  pub is : numbers_of a ≡ profile_numbers text profile
