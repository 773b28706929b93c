-- `matching::answering::first_left` meets its contract: the entries passed are taken.
-- Assumes nothing.
use native.Mathlib.Omega.{arith}
use mathlib.Core.Path.{refl}
use Rattle.matching.specs.Laws.Answering.{none_looked, more_looked, left_here, none_left}
use Rattle.matching.proofs.answering.first_left.Goals as goal

pub loop-i-init : goal.loop-i-init
loop-i-init c = none_looked _ _

pub returns-then-get16-eq0 : goal.returns-then-get16-eq0
returns-then-get16-eq0 c = left_here c.loop-i.invariant c.requires refl (omega (arith, c.count-i-end.ensures)) c.get16.ensures c.if-get16-eq0.true

pub loop-i-preserved : goal.loop-i-preserved
loop-i-preserved c = more_looked c.loop-i.invariant (omega (arith, c.count-i-end.ensures)) c.get16.ensures c.if-get16-eq0.false

pub returns : goal.returns
returns c = none_left c.loop-i.invariant c.requires refl (omega (arith, c.count-i-end.ensures))
