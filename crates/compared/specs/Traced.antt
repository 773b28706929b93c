-- What is answered to a list: the numbers of an answer that `isps_trace` may give.
use Rattle.std.specs.Prelude.{ℕ, ◌≡◌, List}
use Rattle.rules.specs.Steps.Runs.{done, halted, paused, faulted}
use Rattle.rules.specs.Stores.{TraceVerdict}
use Rattle.rules.specs.Calls.Trace.{Trace, unended, compared, Traces, trace_numbers}
use Rattle.runner.specs.declared.runs.Ended.{Ended}
use Rattle.runner.specs.declared.runs.Ended.TheVariants.{Done, Stopped, Paused, Fault as Broken}
use Rattle.lent.specs.Numbers.{numbers_of}
use Rattle.lent.specs.declared.answers.Answer.{Answer}

-- a run that has ended, and the verdict on the list where it ended well
abbrev pub trace_of : Ended → TraceVerdict → Trace
trace_of (Done n) v = compared done n v
trace_of (Stopped n) v = compared halted n v
trace_of (Paused n) v = unended paused n
trace_of (Broken m p n) v = unended (faulted m p) n

pub record Traced (text carriers : List ℕ) (budget : ℕ) (entries : List ℕ) (a : Answer) : Type 0 where
  pub trace : Trace
  pub traces : Traces text carriers budget entries trace
  pub is : numbers_of a ≡ trace_numbers text trace
