-- `reading::kinds::end_of` meets its contract: what is left to read comes to the same place.
use Rattle.reading.specs.Laws.Ends.{Seeking}
use Rattle.reading.proofs.kinds.end_of.Given as goal

abbrev pub invariant-loop-i : goal.invariant-loop-i
invariant-loop-i l = Seeking l.records l.n l.from l.d l.i
