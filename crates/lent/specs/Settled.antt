-- How a call leaves the memory that it was lent, buffer by buffer.
use Rattle.std.specs.Prelude.{◌≡◌}
use Rattle.rules.specs.Calls.Memory.{Memory, zeros, answered}
use Rattle.lent.specs.Numbers.{numbers_of}
use Rattle.lent.specs.declared.answers.Answer.{Answer}

pub record Settled (before after : Memory) (found : Answer) : Type 0 where
  pub work_a : after.work_a ≡ zeros before.work_a
  pub work_b : after.work_b ≡ zeros before.work_b
  pub work_c : after.work_c ≡ zeros before.work_c
  pub answer : after.answer ≡ answered (numbers_of found) before.answer
