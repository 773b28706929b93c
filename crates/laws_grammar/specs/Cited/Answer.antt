-- The answer to the tokens, as one thing: what rows 20 and 21 ask of it.
use Rattle.std.specs.Prelude.{ℕ}

pub data Answer : Type 0 where
  accepted : Answer
  refused20 refused21 : ℕ → Answer
