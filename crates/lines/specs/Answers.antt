-- An answer of the calls: eight numbers of 32 bits, the lowest byte first.
use Rattle.std.specs.Prelude.{ℕ, zero, suc, ◌≡◌, Bool, true, false, List, eqb}
use Rattle.cells.specs.Cells.{cell}
use Rattle.lines.specs.declared.answers.Answer.{Answer}
use Rattle.lines.specs.declared.answers.Ending.{Ending}
use Rattle.lines.specs.declared.answers.Ending.TheVariants.{Done, Stopped, Paused, Fault, Refused, Unbounded, Other}

-- after the refusals 1 and 2 nothing is written, and the number is the whole answer: refused, at line 1 and column 1
abbrev pub unless12 : {A : Type 0} → Bool → Bool → A → A → A
unless12 true b u e = u
unless12 false true u e = u
unless12 false false u e = e

-- by the ending's code; no call answers more than 5
unfoldable pub ending_of : ℕ → Ending
ending_of zero = Done
ending_of (suc zero) = Stopped
ending_of (suc (suc zero)) = Paused
ending_of (suc (suc (suc zero))) = Fault
ending_of (suc (suc (suc (suc zero)))) = Refused
ending_of (suc (suc (suc (suc (suc zero))))) = Unbounded
ending_of (suc (suc (suc (suc (suc (suc more)))))) = Other (suc (suc (suc (suc (suc (suc more))))))

abbrev pub ending_in : ℕ → List ℕ → Ending
ending_in number answer = unless12 (eqb number 1) (eqb number 2) Refused (ending_of (cell 4 answer 0))

abbrev pub count_in : ℕ → List ℕ → ℕ → ℕ
count_in number answer i = unless12 (eqb number 1) (eqb number 2) 1 (cell 4 answer i)

pub record Reads (number : ℕ) (answer : List ℕ) (a : Answer) : Type 0 where
  pub ending : a.ending ≡ ending_in number answer
  pub returned : a.number ≡ number
  pub place : a.place ≡ cell 4 answer 2
  pub steps : a.steps ≡ cell 4 answer 3
  pub declarations : a.declarations ≡ cell 4 answer 4
  pub words : a.words ≡ cell 4 answer 5
  pub line : a.line ≡ count_in number answer 6
  pub column : a.column ≡ count_in number answer 7
