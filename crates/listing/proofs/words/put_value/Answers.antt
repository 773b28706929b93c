-- `listing::words::put_value` meets its contract: one follows the other.
-- Assumes nothing.
use borrow.Author.Rules.{rules}
use Rattle.lines.specs.Laws.Appended.{and_then}
use Rattle.listing.proofs.words.put_value.Goals as goal

pub returns : goal.returns
returns c = search (rules, and_then)
