-- `pair_tables::turns::first_bad_turn` meets its contract: none of the first i turns is bad.
-- Assumes nothing.
use lib.ListN.{length}
use Rattle.pair_tables.specs.Laws.Turns.{Good}
use Rattle.pair_tables.proofs.turns.first_bad_turn.Given as goal

abbrev pub invariant-loop-i : goal.invariant-loop-i
invariant-loop-i l = Good l.turns l.i
