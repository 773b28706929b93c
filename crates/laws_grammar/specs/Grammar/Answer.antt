-- The answer to the tokens, as one thing: what rows 20 and 21 ask of it.
use Rattle.std.specs.Prelude.{ℕ}
use Rattle.rules.specs.Grammar.Trees.{Tokens}
use Rattle.rules.specs.Grammar.Verdict.{IsDescription, Crowded, Refused20, Refused21}
use Rattle.laws_grammar.specs.Cited.Answer.{Answer, accepted, refused20, refused21}

-- neither row has anything to refuse
pub record Accepted (ts : Tokens) : Type 0 where
  pub whole : IsDescription ts
  pub shallow : (j : ℕ) → ¬ Crowded ts j

abbrev pub Right : Tokens → Answer → Type 0
Right ts accepted = Accepted ts
Right ts (refused20 k) = Refused20 ts k
Right ts (refused21 k) = Refused21 ts k
