-- `values::fields::field` meets its contract.
-- Assumes nothing.
use Rattle.std.proofs.Common.{rules}
use Rattle.rules.specs.Values.{field}
use Rattle.values.proofs.fields.field.Goals as goal

pub returns : goal.returns
unfolding field
returns c = search rules
