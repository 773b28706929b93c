-- `noting::telling::tell_closes` meets its contract: the greatest floor of its members stays.
-- Assumes nothing.
use native.Mathlib.Omega.{arith}
use Prim.Native.Nat.{◌-◌}
use Rattle.noting.specs.Laws.Telling.{closes_nowhere, closes_there}
use Rattle.noting.proofs.telling.tell_closes.Goals as goal

pub returns-then-depth-eq0 : goal.returns-then-depth-eq0
returns-then-depth-eq0 c = λ l s. closes_nowhere s c.get16-depth.ensures c.if-depth-eq0.true

pub returns : goal.returns
returns c =
    λ l s. closes_there s (c.get16-depth.result - 1) (omega (arith, c.get16-depth.ensures)) c.get16.ensures c.get16-2.ensures c.greater-most.ensures
    (omega arith) c.put16.ensures c.put16-2.ensures
