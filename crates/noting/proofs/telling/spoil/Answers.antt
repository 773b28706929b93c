-- `noting::telling::spoil` meets its contract: two numbers are put.
-- Assumes nothing.
use native.Mathlib.Omega.{arith}
use Rattle.noting.specs.Laws.Telling.{spoils}
use Rattle.noting.proofs.telling.spoil.Goals as goal

pub returns : goal.returns
returns c =
    λ l s. spoils s (omega arith) (omega arith) c.get16.ensures c.lesser-bad.ensures c.put16.ensures c.put16-2.ensures
