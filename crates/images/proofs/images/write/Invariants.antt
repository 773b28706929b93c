-- `images::images::write` meets its contract: the blocks passed stand in the image.
-- Assumes nothing.
use Rattle.images.specs.Laws.Turns.{Writing}
use Rattle.images.proofs.images.write.Given as goal

abbrev pub invariant-loop-number : goal.invariant-loop-number
invariant-loop-number l = Writing l.size l.blocks l.carriers l.image l.number
