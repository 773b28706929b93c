-- `linking::seeking::seek` meets its contract: what is reached is what is sought.
-- Assumes nothing.
use Rattle.linking.specs.Laws.Chains.{seeks_there}
use Rattle.linking.proofs.seeking.seek.Goals as goal

pub returns : goal.returns
returns c = seeks_there c.requires.0 c.reach-i.ensures c.requires.1 c.put16.ensures
