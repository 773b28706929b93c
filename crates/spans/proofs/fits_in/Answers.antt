-- `spans::fits_in` meets its contract, by the variant.
-- Assumes nothing.
use borrow.Author.Rules.{rules}
use Rattle.spans.proofs.Ranges.{not_inside, inside_then}
use Rattle.spans.proofs.fits_in.Goals as goal

pub returns-then-not-inside : goal.returns-then-not-inside
returns-then-not-inside c = search (rules, not_inside)

pub returns-else-not-inside : goal.returns-else-not-inside
returns-else-not-inside c = search (rules, inside_then)
