-- `sentences::put_sentence` meets its contract, a ten at a time.
-- Assumes nothing.
use borrow.Author.Rules.{rules}
use native.Mathlib.Omega.{arith}
use Rattle.sentences.specs.Sentences.{ten}
use Rattle.sentences.specs.Laws.Sentences.{of_ten, of_none}
use Rattle.sentences.proofs.put_sentence.Goals as goal

pub returns-in-0-to-9 : goal.returns-in-0-to-9
unfolding ten
returns-in-0-to-9 c = (of_ten 0 c.args.number (omega arith) (omega arith) (search rules), search rules)

pub returns-in-10-to-19 : goal.returns-in-10-to-19
unfolding ten
returns-in-10-to-19 c = (of_ten 1 c.args.number (omega arith) (omega arith) (search rules), search rules)

pub returns-in-20-to-29 : goal.returns-in-20-to-29
unfolding ten
returns-in-20-to-29 c = (of_ten 2 c.args.number (omega arith) (omega arith) (search rules), search rules)

pub returns-in-30-to-39 : goal.returns-in-30-to-39
unfolding ten
returns-in-30-to-39 c = (of_ten 3 c.args.number (omega arith) (omega arith) (search rules), search rules)

pub returns-in-40-to-49 : goal.returns-in-40-to-49
unfolding ten
returns-in-40-to-49 c = (of_ten 4 c.args.number (omega arith) (omega arith) (search rules), search rules)

pub returns-in-50-to-59 : goal.returns-in-50-to-59
unfolding ten
returns-in-50-to-59 c = (of_ten 5 c.args.number (omega arith) (omega arith) (search rules), search rules)

pub returns-in-60-to-69 : goal.returns-in-60-to-69
unfolding ten
returns-in-60-to-69 c = (of_ten 6 c.args.number (omega arith) (omega arith) (search rules), search rules)

pub returns-in_default : goal.returns-in_default
returns-in_default c = (of_none c.args.number (omega arith), search rules)
