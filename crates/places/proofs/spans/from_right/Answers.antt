-- `places::spans::from_right` meets its contract: the difference, or 0 where it is less than none.
-- Assumes nothing.
use borrow.Author.Rules.{rules}
use Rattle.places.specs.Laws.Spans.{right_up, right_down}
use Rattle.places.proofs.spans.from_right.Goals as goal

pub returns-then-l-r : goal.returns-then-l-r
returns-then-l-r c = search (rules, right_up)

pub returns : goal.returns
returns c = search (rules, right_down)
