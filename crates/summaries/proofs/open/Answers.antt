-- `summaries::open` meets its contract.
-- Assumes nothing.
use Rattle.summaries.specs.Laws.Summaries.{open_summary}
use Rattle.summaries.proofs.open.Goals as goal

pub returns : goal.returns
returns c = open_summary 0
