-- `pair_turns::words::put_back` meets its contract: the first i words are back.
-- Assumes nothing.
use Rattle.pair_turns.specs.Laws.Words.{Back}
use Rattle.pair_turns.proofs.words.put_back.Given as goal

abbrev pub invariant-loop-i : goal.invariant-loop-i
invariant-loop-i l = Back l.view l.n l.own l.initial.carriers l.carriers l.i
