-- What an order of single steps has in common with the answer of a call that ran: how it ended, after how many steps, and with which carriers.
use Rattle.std.specs.Prelude.{ℕ, ◌≡◌, List, drop}
use Rattle.rules.specs.Declarations.{Table}
use Rattle.rules.specs.Steps.Evaluation.{Carriers}
use Rattle.rules.specs.Steps.Runs.{Conf, running, finished, stopped, failed, Ending, done, halted, paused, faulted, Run}
use Rattle.rules.specs.Steps.Orders.{EveryOrder}
use Rattle.rules.specs.Answers.{little_endian, buffer_of}

-- the first number of an answer
abbrev pub ending_code : Ending → ℕ
ending_code done = 0
ending_code halted = 1
ending_code paused = 2
ending_code (faulted m p) = 3

-- the ending and the steps that stand in the bytes of an answer: its first number, and its fourth
abbrev pub ending_in : List ℕ → ℕ
ending_in answer = little_endian 4 answer

abbrev pub steps_in : List ℕ → ℕ
steps_in answer = little_endian 4 (drop 12 answer)

-- An order of k steps that has come to c agrees with an answer and the carrier bytes that were left: both are those of one run, and `EveryOrder` holds of it.
pub record Agrees (ds : Table) (answer left : List ℕ) (k : ℕ) (c : Conf) : Type 0 where
  pub end : Run
  pub order : EveryOrder ds end k c
  pub ending : ending_code end.ending ≡ ending_in answer
  pub steps : end.steps ≡ steps_in answer
  pub carriers_left_lem : buffer_of end.carriers ≡ left

-- where an order has come to: the first number of its answer, were it to end there, and its carriers
abbrev pub code_at : Conf → ℕ
code_at (running r s) = ending_code paused
code_at (finished s) = ending_code done
code_at (stopped s) = ending_code halted
code_at (failed m p s) = ending_code (faulted m p)

abbrev pub carriers_at : Conf → Carriers
carriers_at (running r s) = s
carriers_at (finished s) = s
carriers_at (stopped s) = s
carriers_at (failed m p s) = s

-- an order of k steps that has come to c has the ending, the count and the carriers of the call
pub record SameEnd (answer left : List ℕ) (k : ℕ) (c : Conf) : Type 0 where
  pub ending : code_at c ≡ ending_in answer
  pub steps : k ≡ steps_in answer
  pub carriers_left_lem : buffer_of (carriers_at c) ≡ left
