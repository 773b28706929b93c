-- `listing::words::put_array_word` meets its contract: one follows the other.
-- Assumes nothing.
use borrow.Author.Rules.{rules}
use Rattle.lines.specs.Laws.Appended.{and_then}
use Rattle.listing.proofs.words.put_array_word.Goals as goal

pub returns : goal.returns
returns c = (and_then c.put_name-second.ensures.0 (and_then c.put_labelled-third.ensures.0 (and_then c.put_byte-fourth.ensures c.put_value.ensures.0)), search rules)
