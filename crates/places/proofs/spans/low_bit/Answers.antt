-- `places::spans::low_bit` meets its contract: by the form of the names.
-- Assumes nothing.
use borrow.Author.Rules.{rules}
use Rattle.std.proofs.Common.{inl, inr}
use Rattle.places.specs.Laws.Spans.{low_missing, low_unnamed, low_span}
use Rattle.places.proofs.spans.low_bit.Goals as goal

pub returns-in-Missing : goal.returns-in-Missing
returns-in-Missing c = elim c.in-Missing.is [ inl e ↦ low_missing e | inr e ↦ low_unnamed e ]

pub returns-in-Span : goal.returns-in-Span
returns-in-Span c = search (rules, low_span)
