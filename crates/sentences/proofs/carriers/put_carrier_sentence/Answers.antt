-- `sentences::carriers::put_carrier_sentence` meets its contract, a number at a time.
-- Assumes nothing.
use borrow.Author.Rules.{rules}
use Rattle.sentences.specs.Sentences.{among, carrier_sentences}
use Rattle.sentences.specs.Laws.Sentences.{said, unsaid}
use Rattle.sentences.proofs.carriers.put_carrier_sentence.Goals as goal

pub returns-in-60 : goal.returns-in-60
unfolding among carrier_sentences
returns-in-60 c = search (rules, said carrier_sentences 60)

pub returns-in-61 : goal.returns-in-61
unfolding among carrier_sentences
returns-in-61 c = search (rules, said carrier_sentences 61)

pub returns-in_default : goal.returns-in_default
unfolding carrier_sentences
returns-in_default c = search (rules, unsaid carrier_sentences)
