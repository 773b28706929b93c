-- The code's names for verdicts, and what they stand for.
use Rattle.std.specs.Prelude.{⊤, Result, Ok, Err}
use Rattle.rules.specs.Stores.{TraceVerdict, just_so, up_to}
use Rattle.matching.specs.declared.answering.Mismatch.{Mismatch}

abbrev pub verdict_of : Result ⊤ Mismatch → TraceVerdict
verdict_of (Ok u) = just_so
verdict_of (Err m) = up_to m.entry
