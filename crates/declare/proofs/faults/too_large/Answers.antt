-- `declare::faults::too_large` meets its contract: its bits are judged first, then its words.
-- Assumes nothing.
use borrow.Author.Rules.{rules}
use Rattle.declare.proofs.Judging.{by_bits, by_words}
use Rattle.declare.proofs.faults.too_large.Goals as goal

pub returns-then-large_bits : goal.returns-then-large_bits
returns-then-large_bits c = search (rules, by_bits)

pub returns : goal.returns
returns c =
    by_words _ _ _ c.bits_of.ensures c.large_bits.ensures c.if-large_bits.false c.words_of.ensures
    c.far.ensures
