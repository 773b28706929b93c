-- `listing::words::put_word` meets its contract: one follows the other.
-- Assumes nothing.
use borrow.Author.Rules.{rules}
use Rattle.lines.specs.Laws.Appended.{and_then}
use Rattle.listing.proofs.words.put_word.Goals as goal

pub returns : goal.returns
returns c = search (rules, and_then)
