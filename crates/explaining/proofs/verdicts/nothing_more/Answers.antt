-- `explaining::verdicts::nothing_more` meets its contract.
use mathlib.Core.Path.{refl}
use Rattle.rules.specs.Calls.Why.{padded, reason_numbers}
use Rattle.explaining.proofs.verdicts.nothing_more.Goals as goal

pub returns : goal.returns
unfolding padded reason_numbers
returns c = refl
