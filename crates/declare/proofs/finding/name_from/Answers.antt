-- `declare::finding::name_from` meets its contract: the name stands behind the heading and MAIN.
-- Assumes nothing.
use borrow.Author.Rules.{rules}
use native.Mathlib.Omega.{arith}
use Rattle.declare.proofs.Starts.{behind_within, main_passed, name_there}
use Rattle.declare.proofs.finding.name_from.Goals as goal

pub kind_at-requires : goal.kind_at-requires
kind_at-requires c = (behind_within c.behind_heading-at.ensures c.requires).room

pub overflow_add-result : goal.overflow_add-result
overflow_add-result c = omega (arith, (behind_within c.behind_heading-at.ensures c.requires).within)

pub returns-then-kind_at-eq-MAIN : goal.returns-then-kind_at-eq-MAIN
returns-then-kind_at-eq-MAIN c = search (rules, main_passed)

pub returns : goal.returns
returns c = search (rules, name_there)
