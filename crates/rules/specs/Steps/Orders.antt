-- How runs end, as configurations and as answers, and what is said of every order of the steps.
use Rattle.std.specs.Prelude.{ℕ, ◌+◌, ◌≤◌, ◌≡◌}
use Rattle.rules.specs.Declarations.{Table}
use Rattle.rules.specs.Steps.Evaluation.{Carriers}
use Rattle.rules.specs.Steps.Runs.{Conf, running, finished, stopped, failed, Steps, Ending, done, halted, paused, faulted, Run}

-- it has ended Done or Stopped
abbrev pub Ended : Conf → Type 0
Ended (running r s) = ⊥
Ended (finished s) = Unit {0}
Ended (stopped s) = Unit {0}
Ended (failed m p s) = ⊥

abbrev pub Faulted : Conf → Type 0
Faulted (running r s) = ⊥
Faulted (finished s) = ⊥
Faulted (stopped s) = ⊥
Faulted (failed m p s) = Unit {0}

-- "Done or Stopped"
abbrev pub Well : Ending → Type 0
Well done = Unit {0}
Well halted = Unit {0}
Well paused = ⊥
Well (faulted m p) = ⊥

-- The configuration in which a run has ended well. Of any other run nothing is said by it: a fault stands there.
abbrev pub end_as : Ending → Carriers → Conf
end_as done s = finished s
end_as halted s = stopped s
end_as paused s = failed 0 0 s
end_as (faulted m p) s = failed m p s

abbrev pub end_of : Run → Conf
end_of r = end_as r.ending r.carriers

-- An order of k steps that has come to c, against a run r that ended well: it is not longer, it has not faulted, it can always go on to the end of r, and
-- if it has ended, it has ended there.
pub record EveryOrder (ds : Table) (r : Run) (k : ℕ) (c : Conf) : Type 0 where
  pub short : k ≤ r.steps
  pub sound : Faulted c → ⊥
  pub goes_on : (j : ℕ) × (k + j ≡ r.steps) × Steps ds j c (end_of r)
  pub same : Ended c → (k ≡ r.steps) × (c ≡ end_of r)

-- an order that has come to c can go no further
abbrev pub NoStep : Table → Conf → Type 0
NoStep ds c = (d : Conf) → Steps ds 1 c d → ⊥
