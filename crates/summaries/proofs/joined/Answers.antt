-- `summaries::joined` meets its contract.
-- Assumes nothing.
use borrow.Author.Rules.{rules}
use Rattle.summaries.specs.Laws.Summaries.{join_summaries}
use Rattle.summaries.proofs.joined.Goals as goal

pub returns : goal.returns
returns c = search (rules, join_summaries)
