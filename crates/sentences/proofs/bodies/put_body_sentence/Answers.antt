-- `sentences::bodies::put_body_sentence` meets its contract, a number at a time.
-- Assumes nothing.
use borrow.Author.Rules.{rules}
use native.Mathlib.Omega.{arith}
use Rattle.sentences.specs.Sentences.{among, body_sentences}
use Rattle.sentences.specs.Laws.Sentences.{said, unsaid}
use Rattle.sentences.proofs.bodies.put_body_sentence.Goals as goal

pub returns-in-40 : goal.returns-in-40
unfolding among body_sentences
returns-in-40 c = search (rules, said body_sentences 40)

pub returns-in-41 : goal.returns-in-41
unfolding among body_sentences
returns-in-41 c = search (rules, said body_sentences 41)

pub returns-in-42 : goal.returns-in-42
unfolding among body_sentences
returns-in-42 c = search (rules, said body_sentences 42)

pub returns-in-43 : goal.returns-in-43
unfolding among body_sentences
returns-in-43 c = search (rules, said body_sentences 43)

pub returns-in-44 : goal.returns-in-44
unfolding among body_sentences
returns-in-44 c = search (rules, said body_sentences 44)

pub returns-in-45 : goal.returns-in-45
unfolding among body_sentences
returns-in-45 c = search (rules, said body_sentences 45)

pub returns-in-46 : goal.returns-in-46
unfolding among body_sentences
returns-in-46 c = search (rules, said body_sentences 46)

pub returns-in_default : goal.returns-in_default
unfolding body_sentences
returns-in_default c = (unsaid body_sentences c.args.number (search rules depth 12), omega arith)
