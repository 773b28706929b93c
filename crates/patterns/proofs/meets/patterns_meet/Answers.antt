-- `patterns::meets::patterns_meet` meets its contract: it is the machine's law.
-- Assumes nothing.
use mathlib.Core.Path.{sym}
use Rattle.patterns.specs.Laws.Patterns.{patterns_machine}
use Rattle.patterns.proofs.meets.patterns_meet.Goals as goal

pub returns : goal.returns
returns c = sym (patterns_machine 64 _ _ _ _ c.ranges.v.fits c.ranges.f.fits c.ranges.w.fits c.ranges.g.fits)
