-- `images::images::read` meets its contract: the payloads of the blocks passed stand in the carriers.
-- Assumes nothing.
use Rattle.images.specs.Laws.Turns.{Reading}
use Rattle.images.proofs.images.read.Given as goal

abbrev pub invariant-loop-i : goal.invariant-loop-i
invariant-loop-i l = Reading l.size l.blocks l.image l.carriers l.i
