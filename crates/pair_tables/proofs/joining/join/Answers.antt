-- `pair_tables::joining::join` meets its contract: the first text's first words are found, then the second's.
-- Assumes nothing.
use Rattle.pair_tables.specs.Standing.{scene_of}
use Rattle.pair_tables.proofs.joining.join.Goals as goal

pub join_behind-requires : goal.join_behind-requires
join_behind-requires c = record { stands = c.requires.stands; m1_in_bounds = ((λ v. (c.first_words.ensures (scene_of v), c.words-words0.ensures.0 _ v.tokens v.description v.ready)), c.requires.m1_in_bounds) }
