-- `places::reading::given_names` meets its contract: the tokens at fixed distances tell the form of the bits.
-- Assumes nothing.
use borrow.Author.Rules.{rules}
use Rattle.places.specs.Laws.Given.{given_short, given_none, given_one, given_two}
use Rattle.places.proofs.reading.given_names.Goals as goal

pub returns-then-n-p : goal.returns-then-n-p
returns-then-n-p c = λ v. given_short c.args.p v (search rules) (search rules)

pub returns-then-kind_at-ne-LESS : goal.returns-then-kind_at-ne-LESS
returns-then-kind_at-ne-LESS c = λ v. given_none c.args.p v c.kind_at.ensures c.if-kind_at-ne-LESS.true

pub returns-then-kind_at-ne-COLON : goal.returns-then-kind_at-ne-COLON
returns-then-kind_at-ne-COLON c = λ v. search (rules, given_one)

pub returns : goal.returns
returns c = λ v. search (rules, given_two)
