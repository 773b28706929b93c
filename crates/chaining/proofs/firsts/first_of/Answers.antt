-- `chaining::firsts::first_of` meets its contract.
use Rattle.chaining.specs.Laws.Firsts.{first_bodiless, first_body}
use Rattle.chaining.proofs.firsts.first_of.Goals as goal

pub returns-in_default : goal.returns-in_default
returns-in_default c = first_bodiless _ _ c.in_default.ensures

pub returns : goal.returns
returns c = first_body _ _ c.in-Some.ensures c.first_in.ensures
