-- `values::operators::either` meets its contract: OR is the machine's.
-- Assumes nothing.
use Rattle.std.proofs.Common.{sym}
use Rattle.values.specs.Laws.Results.{or_machine}
use Rattle.values.proofs.operators.either.Goals as goal

pub returns : goal.returns
returns c = λ m n fit. sym (or_machine fit)
