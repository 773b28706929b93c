-- `places::bases::base_of` meets its contract: a carrier reaches itself, and a mapping what it lies on.
-- Assumes nothing.
use Rattle.places.specs.Laws.Reaching.{base_view, some_view, storage_reached, mapping_at, mapping_reached}
use Rattle.places.proofs.bases.base_of.Goals as goal

pub bits_of-own-requires : goal.bits_of-own-requires
bits_of-own-requires c = base_view c.get16-p.ensures c.requires

pub target_of-requires : goal.target_of-requires
target_of-requires c = some_view c.get16-p.ensures c.requires

pub words_of-words-requires : goal.words_of-words-requires
words_of-words-requires c = base_view c.get16-p.ensures c.requires

pub returns-in_default : goal.returns-in_default
returns-in_default c = λ v. storage_reached c.get16-p.ensures c.bits_of-own.ensures c.in_default.ensures c.words_of-words.ensures c.get16.ensures c.storage.ensures v

pub lies_on-on-requires : goal.lies_on-on-requires
lies_on-on-requires c = mapping_at c.get16-p.ensures c.bits_of-own.ensures c.in-Some.ensures c.requires

pub returns : goal.returns
returns c = λ v. mapping_reached c.get16-p.ensures c.bits_of-own.ensures c.in-Some.ensures c.lies_on-on.ensures v
