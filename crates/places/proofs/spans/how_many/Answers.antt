-- `places::spans::how_many` meets its contract: one more than the larger less the smaller.
-- Assumes nothing.
use borrow.Author.Rules.{rules}
use Rattle.places.specs.Laws.Spans.{many_up, many_down}
use Rattle.places.proofs.spans.how_many.Goals as goal

pub returns-then-l-r : goal.returns-then-l-r
returns-then-l-r c = (search rules, search (rules, many_up))

pub returns : goal.returns
returns c = (search rules, search (rules, many_down))
