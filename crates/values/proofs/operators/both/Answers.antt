-- `values::operators::both` meets its contract: AND is the machine's.
-- Assumes nothing.
use Rattle.std.proofs.Common.{sym}
use Rattle.values.specs.Laws.Results.{and_machine}
use Rattle.values.proofs.operators.both.Goals as goal

pub returns : goal.returns
returns c = λ m n fit. sym (and_machine fit)
