-- `declare::faults::words_in` meets its contract: a mapping adds no word.
-- Assumes nothing.
use mathlib.Core.Path.{sym, ◌∙◌}
use Rattle.declare.proofs.Judging.{mapping_adds_none, storage_adds, small_words}
use Rattle.declare.proofs.faults.words_in.Goals as goal

pub returns-then-is_some : goal.returns-then-is_some
returns-then-is_some c = mapping_adds_none _ _ _ c.target_of.result c.target_of.ensures (sym c.is_some.ensures ∙ c.if-is_some.true)

pub storage_words-requires : goal.storage_words-requires
storage_words-requires c = small_words _ _ _ c.words_of.ensures c.requires

pub returns : goal.returns
returns c =
    storage_adds _ _ _ c.target_of.result c.target_of.ensures c.bits_of.ensures c.words_of.ensures (sym c.is_some.ensures ∙ c.if-is_some.false)
    c.storage_words.ensures
