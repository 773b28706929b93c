-- `profiling::walks::begin` meets its contract.
use borrow.Author.Rules.{rules}
use Rattle.profiling.specs.Laws.Going.{begun_shown}
use Rattle.profiling.proofs.walks.begin.Goals as goal

pub returns : goal.returns
returns c = search (rules, begun_shown)
