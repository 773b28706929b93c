-- `spans::as_many` meets its contract, by the variant.
-- Assumes nothing.
use borrow.Author.Rules.{rules}
use Rattle.spans.proofs.Ranges.{as_many_named, one_unnamed}
use Rattle.spans.proofs.as_many.Goals as goal

pub returns-in-Span : goal.returns-in-Span
returns-in-Span c = search (rules, as_many_named)

pub returns-in-Unnamed : goal.returns-in-Unnamed
returns-in-Unnamed c = search (rules, one_unnamed)
