-- `spans::last_of` meets its contract, by the variant.
-- Assumes nothing.
use borrow.Author.Rules.{rules}
use Rattle.spans.proofs.Ranges.{last_span}
use Rattle.spans.proofs.last_of.Goals as goal

pub returns-in-Span : goal.returns-in-Span
returns-in-Span c = search (rules, last_span)
