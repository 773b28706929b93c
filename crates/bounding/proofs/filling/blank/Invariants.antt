-- `bounding::filling::blank` meets its contract.
use Rattle.bounding.specs.Laws.Filling.{Blanking}
use Rattle.bounding.proofs.filling.blank.Given as goal

abbrev pub invariant-loop-k : goal.invariant-loop-k
invariant-loop-k l = Blanking l.initial.table l.table l.k
