-- `naming::names::test_number` meets its contract: a name that is not declared, or has no body, is no test.
-- Assumes nothing.
use borrow.Author.Rules.{rules}
use Rattle.std.specs.Prelude.{◌≡◌, None}
use Rattle.whole.specs.Laws.Written.{reading}
use Rattle.naming.specs.Laws.Names.{number_within, no_such_test, bodiless_test, test_there}
use Rattle.naming.proofs.names.test_number.Goals as goal

pub returns-in_err-k : goal.returns-in_err-k
returns-in_err-k c = λ v.
    let none_is : c.from_residual.result ≡ None = search rules in rw none_is (no_such_test v _ (c.number_of.ensures v) c.in_err-k.was)

pub body_at-requires : goal.body_at-requires
body_at-requires c = (reading c.requires, number_within c.requires _ (c.number_of.ensures c.requires) c.in_ok-k.was)

pub returns-in-None : goal.returns-in-None
returns-in-None c = λ v. bodiless_test v _ (c.number_of.ensures v) c.in_ok-k.was (c.in-None.ensures (reading v))

pub returns-in-Some : goal.returns-in-Some
returns-in-Some c = λ v. test_there v _ (c.number_of.ensures v) c.in_ok-k.was (c.in-Some.ensures (reading v))
