-- `naming::names::same_letter` meets its contract.
-- Assumes nothing.
use mathlib.Core.Path.{ap₂}
use lib.Dec.{eqb}
use Rattle.naming.proofs.names.same_letter.Goals as goal

pub returns : goal.returns
returns c = ap₂ eqb c.upper-a.ensures c.upper-b.ensures
