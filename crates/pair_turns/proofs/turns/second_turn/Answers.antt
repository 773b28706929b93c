-- `pair_turns::turns::second_turn` meets its contract: what is seen, the run on it, and what is put back.
-- Assumes nothing.
use Rattle.pair_turns.specs.Laws.Turns.{second_turned}
use Rattle.pair_turns.proofs.turns.second_turn.Goals as goal

pub returns : goal.returns
returns c ds v count =
    second_turned _ c.take_out.ensures (c.front_run-ended.ensures ds v count) c.put_back.ensures
