-- What a report comes to: the numbers of a verdict that Check may give, and a reason that explains it.
use Rattle.std.specs.Prelude.{ℕ, ◌≡◌, List}
use Rattle.rules.specs.Reasons.{Reason, Explains}
use Rattle.rules.specs.Calls.Why.{reasoned}
use Rattle.lent.specs.declared.answers.Answer.{Answer}
use Rattle.checking.specs.Checked.{Told}

pub record Reported (text reason left : List ℕ) (a : Answer) : Type 0 where
  pub told : Told text a
  pub said : Reason
  pub explains : Explains text told.verdict said
  pub left_is : left ≡ reasoned said reason
