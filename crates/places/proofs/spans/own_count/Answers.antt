-- `places::spans::own_count` meets its contract: by the form of the names.
-- Assumes nothing.
use borrow.Author.Rules.{rules}
use Rattle.places.specs.Laws.Spans.{many_missing, many_unnamed, many_span}
use Rattle.places.proofs.spans.own_count.Goals as goal

pub returns-in-Missing : goal.returns-in-Missing
returns-in-Missing c = search (rules, many_missing)

pub returns-in-Unnamed : goal.returns-in-Unnamed
returns-in-Unnamed c = search (rules, many_unnamed)

pub returns-in-Span : goal.returns-in-Span
returns-in-Span c = search (rules, many_span)
