-- `linking::seeking::reach` meets its contract: what is passed of the word is taken.
-- Assumes nothing.
use native.Mathlib.Omega.{arith}
use Prim.Native.Nat.{◌-◌}
use Rattle.linking.specs.Laws.Chains.{first_reached, reach_next, reaches_here, reaches_none}
use Rattle.linking.proofs.seeking.reach.Goals as goal

pub loop-i-init : goal.loop-i-init
loop-i-init c = first_reached c.requires.0 c.requires.1 c.get16-i.ensures

pub returns-then-get16-eq0 : goal.returns-then-get16-eq0
returns-then-get16-eq0 c = reaches_here c.loop-i.invariant c.get16.ensures c.if-get16-eq0.true

pub loop-i-smaller : goal.loop-i-smaller
loop-i-smaller c =
    omega (arith, (reach_next c.requires.0 c.requires.1 c.loop-i.invariant (omega arith) c.get16.ensures c.if-get16-eq0.false c.get16-i-in-loop-i.ensures).0)

pub loop-i-preserved : goal.loop-i-preserved
loop-i-preserved c =
    (reach_next c.requires.0 c.requires.1 c.loop-i.invariant (omega arith) c.get16.ensures c.if-get16-eq0.false c.get16-i-in-loop-i.ensures).1

pub returns : goal.returns
returns c = reaches_none c.loop-i.invariant (omega arith)
