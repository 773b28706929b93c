-- `pair_turns::turns::turn` meets its contract, by the side.
-- Assumes nothing.
use Rattle.pair_turns.specs.Laws.Turns.{first_turned, of_first, of_second}
use Rattle.pair_turns.proofs.turns.turn.Goals as goal

pub returns-then-side-eq0 : goal.returns-then-side-eq0
returns-then-side-eq0 c = λ v.
    of_first v c.if-side-eq0.true
    (first_turned v.runs₀ v.count₀ (c.front_run.ensures _ v.runs₀ v.count₀) v.front c.front_run.auto.words)

pub returns : goal.returns
returns c = λ v. of_second v c.if-side-eq0.false (c.second_turn.ensures _ v.runs₁ v.count₁)
