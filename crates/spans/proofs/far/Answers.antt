-- `spans::far` meets its contract, by the variant.
-- Assumes nothing.
use borrow.Author.Rules.{rules}
use Rattle.spans.proofs.Ranges.{far_span}
use Rattle.spans.proofs.far.Goals as goal

pub returns-in-Span : goal.returns-in-Span
returns-in-Span c = search (rules, far_span)
