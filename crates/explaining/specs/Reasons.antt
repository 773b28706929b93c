-- A verdict by its number and place, and the numbers of a reason for it.
use Rattle.std.specs.Prelude.{ℕ, ◌≡◌, List}
use Rattle.rules.specs.Answers.{Verdict, accepted, refused, Checks}
use Rattle.rules.specs.Calls.Check.{verdict_number}
use Rattle.rules.specs.Reasons.{Reason, Explains}
use Rattle.rules.specs.Calls.Why.{reason_numbers}

-- the place of a verdict: 0 where it is none
abbrev pub verdict_place : Verdict → ℕ
verdict_place (accepted n w) = 0
verdict_place (refused m p) = p

-- a verdict that a text may be given
pub record Judged (text : List ℕ) (number place : ℕ) : Type 0 where
  pub verdict : Verdict
  pub checks : Checks text verdict
  pub number_is : number ≡ verdict_number verdict
  pub place_is : place ≡ verdict_place verdict

-- the numbers of a reason for each such verdict
pub record Gives (text : List ℕ) (v : Verdict) (ns : List ℕ) : Type 0 where
  pub reason : Reason
  pub explains : Explains text v reason
  pub numbers : ns ≡ reason_numbers reason

pub record Explained (text : List ℕ) (number place : ℕ) (ns : List ℕ) : Type 0 where
  pub gives : (j : Judged text number place) → Gives text j.verdict ns
