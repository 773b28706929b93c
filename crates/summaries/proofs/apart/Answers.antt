-- `summaries::apart` meets its contract.
-- Assumes nothing.
use Rattle.summaries.specs.Laws.Summaries.{patterns_apart}
use Rattle.summaries.proofs.apart.Goals as goal

pub returns : goal.returns
returns c = λ e. patterns_apart _ _ _ c.patterns_meet.ensures e
