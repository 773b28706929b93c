-- `pair_tables::shapes::same_shape` meets its contract: the names of words, then those of bits.
-- Assumes nothing.
use Rattle.std.proofs.lemmas.Bool.{not_from_false, not_from_true}
use Rattle.pair_tables.specs.Laws.Shapes.{other_words, by_bits}
use Rattle.pair_tables.proofs.shapes.same_shape.Goals as goal

pub returns-then-not-same_names : goal.returns-then-not-same_names
returns-then-not-same_names c = λ v w. other_words c.words_of.ensures c.words_of-2.ensures c.same_names.ensures v w (not_from_false _ c.if-not-same_names.true)

pub returns : goal.returns
returns c =
    λ v w. by_bits c.words_of.ensures c.words_of-2.ensures c.same_names.ensures v w (not_from_true _ c.if-not-same_names.false)
    c.bits_of.ensures c.bits_of-2.ensures c.same_names-2.ensures
