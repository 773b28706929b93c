-- Runs that end well: the configuration in which one has ended is an end.
use Rattle.rules.specs.Steps.Evaluation.{Carriers}
use Rattle.rules.specs.Steps.Runs.{Ending, done, halted, paused, faulted, Run}
use Rattle.rules.specs.Steps.Orders.{Ended, Well, end_as}

abbrev pub EndsWell : Run → Type 0
EndsWell r = Well r.ending

pub end_ended : (e : Ending) (s : Carriers) → Well e → Ended (end_as e s)
end_ended done s h = tt
end_ended halted s h = tt
end_ended paused s h = absurd h
end_ended (faulted m p) s h = absurd h
