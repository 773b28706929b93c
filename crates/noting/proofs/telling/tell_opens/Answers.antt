-- `noting::telling::tell_opens` meets its contract: the floor is kept for its members.
-- Assumes nothing.
use native.Mathlib.Omega.{arith}
use Rattle.linking.specs.Laws.Puts.{depth_is}
use Rattle.noting.specs.Laws.Telling.{opens_there}
use Rattle.noting.proofs.telling.tell_opens.Goals as goal

pub returns : goal.returns
returns c =
    λ l s. opens_there s c.get16-depth.ensures (omega (arith, c.get16-depth.ensures, depth_is c.requires.1.0, c.requires.1.1)) c.get16-floor.ensures (omega arith)
    c.put16.ensures c.put16-2.ensures c.put16-3.ensures
