-- `images::images::judge` meets its contract: the blocks passed are sound, so the others decide.
-- Assumes nothing.
use Rattle.images.specs.Laws.Turns.{Judging}
use Rattle.images.proofs.images.judge.Given as goal

abbrev pub invariant-loop-i : goal.invariant-loop-i
invariant-loop-i l = Judging l.size l.blocks l.image l.i
