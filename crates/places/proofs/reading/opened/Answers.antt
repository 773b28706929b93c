-- `places::reading::opened` meets its contract: one more behind `[`, one fewer behind `]`.
-- Assumes nothing.
use borrow.Author.Rules.{rules}
use Rattle.places.specs.Laws.Brackets.{opened_more, opened_fewer, opened_same}
use Rattle.places.proofs.reading.opened.Goals as goal

pub returns-then-kind-eq-LBRA : goal.returns-then-kind-eq-LBRA
returns-then-kind-eq-LBRA c = (search (rules, opened_more), search rules)

pub returns-then-kind-eq-RBRA : goal.returns-then-kind-eq-RBRA
returns-then-kind-eq-RBRA c = (search (rules, opened_fewer), search rules)

pub returns : goal.returns
returns c = (search (rules, opened_same), search rules)
