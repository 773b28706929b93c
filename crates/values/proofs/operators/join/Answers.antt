-- `values::operators::join` meets its contract: the shift loses no bit, since the whole fits.
-- Assumes nothing.
use Rattle.std.proofs.Common.{arith}
use Rattle.rules.specs.Values.{op_number}
use Rattle.values.proofs.operators.join.Goals as goal

pub returns : goal.returns
unfolding op_number
returns c m = omega arith
