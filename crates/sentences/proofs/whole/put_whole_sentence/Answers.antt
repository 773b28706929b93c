-- `sentences::whole::put_whole_sentence` meets its contract, a number at a time.
-- Assumes nothing.
use borrow.Author.Rules.{rules}
use Rattle.sentences.specs.Sentences.{among, whole_sentences}
use Rattle.sentences.specs.Laws.Sentences.{said, unsaid}
use Rattle.sentences.proofs.whole.put_whole_sentence.Goals as goal

pub returns-in-50 : goal.returns-in-50
unfolding among whole_sentences
returns-in-50 c = search (rules, said whole_sentences 50)

pub returns-in-51 : goal.returns-in-51
unfolding among whole_sentences
returns-in-51 c = search (rules, said whole_sentences 51)

pub returns-in-52 : goal.returns-in-52
unfolding among whole_sentences
returns-in-52 c = search (rules, said whole_sentences 52)

pub returns-in-53 : goal.returns-in-53
unfolding among whole_sentences
returns-in-53 c = search (rules, said whole_sentences 53)

pub returns-in_default : goal.returns-in_default
unfolding whole_sentences
returns-in_default c = search (rules, unsaid whole_sentences)
