-- The answer of `judge` as a fault of the rules.
use Rattle.std.proofs.Math.Option.{Option, none, some}
use Rattle.rules.specs.Faults.Fault.{Fault, fault}
use Rattle.std.specs.Prelude.{⊤, Ok, Err}
use Rattle.rules.specs.Refusals.{OrRefused}

abbrev pub fault_of : OrRefused ⊤ → Option Fault
fault_of (Ok u) = none
fault_of (Err r) = some (fault r.number r.place)
