-- `values::operators::differ` meets its contract: XOR is the machine's.
-- Assumes nothing.
use Rattle.std.proofs.Common.{sym}
use Rattle.values.specs.Laws.Results.{xor_machine}
use Rattle.values.proofs.operators.differ.Goals as goal

pub returns : goal.returns
returns c = λ m n fit. sym (xor_machine fit)
