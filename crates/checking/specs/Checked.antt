-- What a check comes to: the numbers of a verdict that Check may give.
use Rattle.std.specs.Prelude.{ℕ, ◌≤◌, ◌≡◌, List, Result, Ok, Err}
use Rattle.rules.specs.Limits.{longest_text}
use Rattle.rules.specs.Answers.{Verdict as Answered, accepted, refused, Checks, verdict_numbers}
use Rattle.lent.specs.Numbers.{numbers_of}
use Rattle.lent.specs.declared.answers.Answer.{Answer}
use Rattle.reader.specs.declared.judging.Accepted.{Accepted}
use Rattle.rules.specs.declared.refusals.Refusal.{Refusal}

-- the reader's verdict
abbrev pub verdict_of : Result Accepted Refusal → Answered
verdict_of (Ok a) = accepted a.declarations a.words
verdict_of (Err r) = refused r.number r.place

-- counts and places are small
abbrev pub Near : Result Accepted Refusal → Type 0
Near (Ok a) = (a.declarations ≤ 65536) × (a.words ≤ 65536)
Near (Err r) = r.place ≤ longest_text

pub record Told (text : List ℕ) (a : Answer) : Type 0 where
  pub verdict : Answered
  pub checks : Checks text verdict
  pub is : numbers_of a ≡ verdict_numbers text verdict
