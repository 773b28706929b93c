-- `sentences::tokens::put_token_sentence` meets its contract, a number at a time.
-- Assumes nothing.
use borrow.Author.Rules.{rules}
use Rattle.sentences.specs.Sentences.{among, token_sentences}
use Rattle.sentences.specs.Laws.Sentences.{said, unsaid}
use Rattle.sentences.proofs.tokens.put_token_sentence.Goals as goal

pub returns-in-10 : goal.returns-in-10
unfolding among token_sentences
returns-in-10 c = search (rules, said token_sentences 10)

pub returns-in-11 : goal.returns-in-11
unfolding among token_sentences
returns-in-11 c = search (rules, said token_sentences 11)

pub returns-in-12 : goal.returns-in-12
unfolding among token_sentences
returns-in-12 c = search (rules, said token_sentences 12)

pub returns-in-13 : goal.returns-in-13
unfolding among token_sentences
returns-in-13 c = search (rules, said token_sentences 13)

pub returns-in_default : goal.returns-in_default
unfolding token_sentences
returns-in_default c = search (rules, unsaid token_sentences)
