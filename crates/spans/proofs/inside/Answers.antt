-- `spans::inside` meets its contract, test by test.
-- Assumes nothing.
use borrow.Author.Rules.{rules}
use Rattle.spans.proofs.Ranges.{first_outside, last_outside, one_bit, both_rise, both_fall}
use Rattle.spans.proofs.inside.Goals as goal

pub returns-then-not-is_among : goal.returns-then-not-is_among
returns-then-not-is_among c = search (rules, first_outside)

pub returns-then-not-is_among-2 : goal.returns-then-not-is_among-2
returns-then-not-is_among-2 c = search (rules, last_outside)

pub returns-then-first-last : goal.returns-then-first-last
returns-then-first-last c = search (rules, one_bit)

pub returns-then-left-right : goal.returns-then-left-right
returns-then-left-right c = search (rules, both_rise)

pub returns : goal.returns
returns c = search (rules, both_fall)
