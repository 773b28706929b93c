-- `reading::calls::next_call` meets its contract: the activations that are left stay the same up to the next.
use Rattle.reading.specs.Laws.Calls.{Searching}
use Rattle.reading.proofs.calls.next_call.Given as goal

abbrev pub invariant-loop-i : goal.invariant-loop-i
invariant-loop-i l = Searching l.records l.n l.at l.depth l.from l.d l.m l.i
