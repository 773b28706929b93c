-- `pair_tables::meeting::is_namesake` meets its contract: the words of both names, then whether the first is storage.
-- Assumes nothing.
use Rattle.std.proofs.lemmas.Bool.{not_from_false, not_from_true}
use Rattle.pair_tables.specs.Standing.{view_of}
use Rattle.pair_tables.specs.Laws.Standing.{name_in}
use Rattle.pair_tables.specs.Laws.Seeking.{other_name, same_name}
use Rattle.pair_tables.proofs.meeting.is_namesake.Goals as goal

pub same_words-requires : goal.same_words-requires
same_words-requires c = (name_in c.requires.declared_in, name_in c.requires.by_index.1)

pub returns-then-not-same_words : goal.returns-then-not-same_words
returns-then-not-same_words c = λ values v w s. other_name c.same_words.ensures values v w s (not_from_false _ c.if-not-same_words.true)

pub is_storage-requires : goal.is_storage-requires
is_storage-requires c = view_of c.requires.declared_in

pub returns : goal.returns
returns c = λ values v w s. same_name c.same_words.ensures values v w s (not_from_true _ c.if-not-same_words.false) c.is_storage.ensures
