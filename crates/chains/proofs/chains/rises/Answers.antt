-- `chains::chains::rises` meets its contract.
use Rattle.chains.specs.Laws.Chains.{no_body, its_body}
use Rattle.chains.proofs.chains.rises.Goals as goal

pub returns-in_default : goal.returns-in_default
returns-in_default c = no_body _ _ c.in_default.ensures

pub returns : goal.returns
returns c = its_body _ _ c.in-Some.ensures c.activates.ensures
