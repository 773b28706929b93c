-- `runner::turns::back` meets its contract.
-- Assumes nothing.
use Rattle.runner.specs.Laws.Turns.{back_over, back_there}
use Rattle.runner.proofs.turns.back.Goals as goal

pub returns-then-depth-eq0 : goal.returns-then-depth-eq0
returns-then-depth-eq0 c = back_over _ _ c.if-depth-eq0.true

pub returns : goal.returns
returns c = back_there _ _ c.if-depth-eq0.false
