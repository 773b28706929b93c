-- `declare::finding::behind_heading` meets its contract: a heading takes three tokens.
-- Assumes nothing.
use borrow.Author.Rules.{rules}
use native.Mathlib.Omega.{arith}
use Rattle.declare.proofs.Starts.{begins_within, heading_passed, no_heading_there}
use Rattle.declare.proofs.finding.behind_heading.Goals as goal

pub kind_at-requires : goal.kind_at-requires
kind_at-requires c = (begins_within c.requires).room

pub overflow_add-result : goal.overflow_add-result
overflow_add-result c = omega (arith, (begins_within c.requires).within)

pub returns-then-kind_at-eq-STARS : goal.returns-then-kind_at-eq-STARS
returns-then-kind_at-eq-STARS c = search (rules, heading_passed)

pub returns : goal.returns
returns c = search (rules, no_heading_there)
