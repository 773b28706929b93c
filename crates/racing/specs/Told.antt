-- A reason, as the code has it.
use Rattle.std.specs.Prelude.{Option, Some, None}
use Rattle.rules.specs.Reasons.{Reason, no_reason, racing}
use Rattle.racing.specs.declared.telling.Race.{Race}

abbrev pub reason_in : Option Race → Reason
reason_in None = no_reason
reason_in (Some r) = racing r.earlier r.later r.carrier r.name r.who
