-- `matching::answering::first_left` meets its contract: the entries passed are taken.
-- Assumes nothing.
use lib.ListN.{length}
use Rattle.rules.specs.Entries.{entries_in}
use Rattle.matching.specs.Laws.Answering.{Looked}
use Rattle.matching.proofs.answering.first_left.Given as goal

abbrev pub invariant-loop-i : goal.invariant-loop-i
invariant-loop-i l = Looked l.room (length (entries_in l.entries)) l.i
