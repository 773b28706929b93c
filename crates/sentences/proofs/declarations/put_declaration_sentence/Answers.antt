-- `sentences::declarations::put_declaration_sentence` meets its contract, a number at a time.
-- Assumes nothing.
use borrow.Author.Rules.{rules}
use Rattle.sentences.specs.Sentences.{among, declaration_sentences}
use Rattle.sentences.specs.Laws.Sentences.{said, unsaid}
use Rattle.sentences.proofs.declarations.put_declaration_sentence.Goals as goal

pub returns-in-30 : goal.returns-in-30
unfolding among declaration_sentences
returns-in-30 c = search (rules, said declaration_sentences 30)

pub returns-in-31 : goal.returns-in-31
unfolding among declaration_sentences
returns-in-31 c = search (rules, said declaration_sentences 31)

pub returns-in-32 : goal.returns-in-32
unfolding among declaration_sentences
returns-in-32 c = search (rules, said declaration_sentences 32)

pub returns-in-33 : goal.returns-in-33
unfolding among declaration_sentences
returns-in-33 c = search (rules, said declaration_sentences 33)

pub returns-in_default : goal.returns-in_default
unfolding declaration_sentences
returns-in_default c = search (rules, unsaid declaration_sentences)
