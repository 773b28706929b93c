-- `sentences::grammar::put_grammar_sentence` meets its contract, a number at a time.
-- Assumes nothing.
use borrow.Author.Rules.{rules}
use Rattle.sentences.specs.Sentences.{among, grammar_sentences}
use Rattle.sentences.specs.Laws.Sentences.{said, unsaid}
use Rattle.sentences.proofs.grammar.put_grammar_sentence.Goals as goal

pub returns-in-20 : goal.returns-in-20
unfolding among grammar_sentences
returns-in-20 c = search (rules, said grammar_sentences 20)

pub returns-in-21 : goal.returns-in-21
unfolding among grammar_sentences
returns-in-21 c = search (rules, said grammar_sentences 21)

pub returns-in_default : goal.returns-in_default
unfolding grammar_sentences
returns-in_default c = search (rules, unsaid grammar_sentences)
