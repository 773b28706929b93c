-- `values::operators::add` meets its contract.
-- Assumes nothing.
use Rattle.std.proofs.Common.{refl}
use Rattle.rules.specs.Values.{op_number}
use Rattle.values.proofs.operators.add.Goals as goal

pub returns : goal.returns
unfolding op_number
returns c m n = refl
