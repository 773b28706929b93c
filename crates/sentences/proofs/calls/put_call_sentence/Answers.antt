-- `sentences::calls::put_call_sentence` meets its contract, a number at a time.
-- Assumes nothing.
use borrow.Author.Rules.{rules}
use Rattle.sentences.specs.Sentences.{among, call_sentences}
use Rattle.sentences.specs.Laws.Sentences.{said, unsaid}
use Rattle.sentences.proofs.calls.put_call_sentence.Goals as goal

pub returns-in-1 : goal.returns-in-1
unfolding among call_sentences
returns-in-1 c = search (rules, said call_sentences 1)

pub returns-in-2 : goal.returns-in-2
unfolding among call_sentences
returns-in-2 c = search (rules, said call_sentences 2)

pub returns-in_default : goal.returns-in_default
unfolding call_sentences
returns-in_default c = search (rules, unsaid call_sentences)
