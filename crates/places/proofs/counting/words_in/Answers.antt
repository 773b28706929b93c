-- `places::counting::words_in` meets its contract: a mapping adds no word.
-- Assumes nothing.
use mathlib.Core.Path.{sym, ◌∙◌}
use borrow.Author.Rules.{rules}
use Rattle.places.specs.Laws.Counting.{mapping_words, carrier_words}
use Rattle.places.proofs.counting.words_in.Goals as goal

pub returns-then-is_some : goal.returns-then-is_some
returns-then-is_some c = (search rules, λ v. mapping_words c.target_of.result c.target_of.ensures (sym c.is_some.ensures ∙ c.if-is_some.true) v)

pub returns : goal.returns
returns c = (search rules, λ v. carrier_words c.target_of.result c.target_of.ensures (sym c.is_some.ensures ∙ c.if-is_some.false) c.bits_of-own.ensures c.words_of-words.ensures c.storage_words.ensures.1 v)
