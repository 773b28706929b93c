-- `stacks::is_stacked` meets its contract.
-- Assumes nothing.
use Rattle.stacks.specs.Laws.Index.{found_known}
use Rattle.stacks.proofs.is_stacked.Goals as goal

pub returns : goal.returns
returns c = λ v. found_known v c.position.ensures
