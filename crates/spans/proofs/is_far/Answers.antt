-- `spans::is_far` meets its contract, by the larger of two.
-- Assumes nothing.
use borrow.Author.Rules.{rules}
use Rattle.spans.proofs.Ranges.{left_far, right_far}
use Rattle.spans.proofs.is_far.Goals as goal

pub returns-then-left-gt-LARGEST_NAME : goal.returns-then-left-gt-LARGEST_NAME
returns-then-left-gt-LARGEST_NAME c = search (rules, left_far)

pub returns : goal.returns
returns c = search (rules, right_far)
