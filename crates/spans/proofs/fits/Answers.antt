-- `spans::fits` meets its contract, by the variant.
-- Assumes nothing.
use borrow.Author.Rules.{rules}
use Rattle.spans.proofs.Ranges.{fits_span}
use Rattle.spans.proofs.fits.Goals as goal

pub returns-in-Span : goal.returns-in-Span
returns-in-Span c = search (rules, fits_span)
